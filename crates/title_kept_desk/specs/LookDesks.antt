-- What a desk does that only looks, on top of a plant's file: each line is answered as what it counts as at a look.
use Rattle.std.specs.Prelude.{◌≡◌, ◌⊎◌, ◌<◌, ◌++◌, ℕ, List, [], Bool, true, false, Option, IfSome, Result, Ok, Err, IfErr, OnOk}
use Rattle.std.specs.{Prelude.{length, map, take}, Io.KnownBytes.{Appends, Consumes, IsAtEnd, Keeps}}
use Rattle.title_daybook.specs.{Files.{IsPlant}, Standing.{Standing}}
use Rattle.title_counter.specs.{Counters.{Counter}, Limits.{most_given}, Lines.{all_lines, lines_in}}
use Rattle.title_counter.specs.Sessions.{Answers, Ends, IsSound, LostBatch, PassedBatch}
use Rattle.title_lasting.specs.declared.fault.LastingFault.{LastingFault}
use Rattle.title_kept_desk.specs.{Desks.{IsDeskCause}, LookLines.{as_look}, Sittings.{end_text, opening_on}}
use Rattle.title_lasting.specs.declared.fault.LastingFault.TheVariants as fault

-- ---- from batch to batch

-- lines were answered through a page, open transactions were aborted, and the last row was written
pub record EndedLooks (before : Counter) (lines : List (List ℕ)) (taken taken_after : Option (List ℕ)) : Type 0 where
  pub text : List ℕ
  pub after : Counter
  pub answers : Answers before lines text after
  pub sound : IsSound after
  pub ends : Ends after
  pub written : Appends taken taken_after (text ++ end_text after)

-- the sink failed meanwhile
pub record BrokenLooks (before : Counter) (lines : List (List ℕ)) (taken taken_after : Option (List ℕ)) : Type 0 where
  pub first : List (List ℕ)
  pub more : List (List ℕ)
  pub lines_are : lines ≡ first ++ more
  pub text : List ℕ
  pub after : Counter
  pub answers : Answers before first text after
  pub sound : IsSound after
  pub all : List ℕ
  pub all_is : (all ≡ text) ⊎ ((more ≡ []) × (all ≡ text ++ end_text after))
  pub count : ℕ
  pub written : Appends taken taken_after (take count all)

-- What comes of lines that are answered as looks: they are answered; or memory is wanted before the first of them, and nothing was
-- written; or the sink has failed.
abbrev pub IsLookBatch : {T : Type 0} → Result T LastingFault → (c d : Counter) → (lines : List (List ℕ))
    → (taken taken_after : Option (List ℕ)) → (sink_failed : Bool) → Type 0
IsLookBatch (Ok value) c d lines taken taken_after sink_failed =
    PassedBatch c lines d taken taken_after × IsSound d × (sink_failed ≡ false)
IsLookBatch (Err fault.Memory) c d lines taken taken_after sink_failed = Keeps taken taken_after
IsLookBatch (Err fault.Write) c d lines taken taken_after sink_failed =
    LostBatch c lines d taken taken_after × IsSound d × (sink_failed ≡ true)
IsLookBatch (Err _) c d lines taken taken_after sink_failed = ⊥

-- what comes of the last line, and of the end
abbrev pub IsLookEnd : {T : Type 0} → Result T LastingFault → (c : Counter) → (lines : List (List ℕ))
    → (taken taken_after : Option (List ℕ)) → (sink_failed : Bool) → Type 0
IsLookEnd (Ok value) c lines taken taken_after sink_failed = EndedLooks c lines taken taken_after
IsLookEnd (Err fault.Memory) c lines taken taken_after sink_failed = Keeps taken taken_after
IsLookEnd (Err fault.Write) c lines taken taken_after sink_failed =
    BrokenLooks c lines taken taken_after × (sink_failed ≡ true)
IsLookEnd (Err _) c lines taken taken_after sink_failed = ⊥

-- ---- lines from a counter on

-- The counter before the first line; what was left in the source, before and after; what the sink has taken, before and after.
module _ (c : Counter) (left left_after taken taken_after : Option (List ℕ)) where
  -- All that was left in the source was given. Its lines were answered as looks, and the text of their answers and the last row were
  -- written. Open transactions were aborted, and then the headline is true.
  pub record IsAnsweredLook : Type 0 where
    pub given : List ℕ
    pub consumed : Consumes left left_after given
    pub text : List ℕ
    pub after : Counter
    pub answers : Answers c (map as_look (all_lines given)) text after
    pub sound : IsSound after
    pub ends : Ends after
    pub written : Appends taken taken_after (text ++ end_text after)

  -- So much was given, and the answers to all whole lines in it were written: no answer waits for more.
  pub record IsAtOnceLook : Type 0 where
    pub given : List ℕ
    pub consumed : Consumes left left_after given
    pub text : List ℕ
    pub after : Counter
    pub answers : Answers c (map as_look (lines_in given).whole) text after
    pub sound : IsSound after
    pub written : Appends taken taken_after text

  -- So much was given. Of the answers to its first lines, perhaps to all and with the last row, a beginning was written.
  pub record IsBegunLook : Type 0 where
    pub given : List ℕ
    pub consumed : Consumes left left_after given
    pub first : List (List ℕ)
    pub more : List (List ℕ)
    pub lines_are : map as_look (all_lines given) ≡ first ++ more
    pub text : List ℕ
    pub after : Counter
    pub answers : Answers c first text after
    pub sound : IsSound after
    pub all : List ℕ
    pub all_is : (all ≡ text) ⊎ ((more ≡ []) × (all ≡ text ++ end_text after))
    pub count : ℕ
    pub written : Appends taken taken_after (take count all)

  -- So much was given. The answers to its first lines were written, and nothing of the others.
  pub record IsUntoldLook : Type 0 where
    pub given : List ℕ
    pub consumed : Consumes left left_after given
    pub first : List (List ℕ)
    pub more : List (List ℕ)
    pub lines_are : all_lines given ≡ first ++ more
    pub text : List ℕ
    pub after : Counter
    pub answers : Answers c (map as_look first) text after
    pub sound : IsSound after
    pub written : Appends taken taken_after text

  -- what was told where lines are stopped
  abbrev pub LeavesLooks : LastingFault → Type 0
  LeavesLooks fault.Memory = IsUntoldLook
  LeavesLooks fault.Read = IsAtOnceLook
  LeavesLooks fault.Write = IsBegunLook
  LeavesLooks _ = ⊥

-- why lines are stopped: the source or the sink has failed, or the source gave more bytes than anybody waits for; or memory was wanted
abbrev pub IsLooksCause : (left : Option (List ℕ)) → (source_failed sink_failed : Bool) → LastingFault → Type 0
IsLooksCause left source_failed sink_failed fault.Read = (source_failed ≡ true) ⊎ IfSome left (λ bytes. most_given < length bytes)
IsLooksCause left source_failed sink_failed fault.Write = sink_failed ≡ true
IsLooksCause left source_failed sink_failed fault.Memory = Unit {0}
IsLooksCause left source_failed sink_failed _ = ⊥

-- lines of a source are answered as looks, from this counter on; whether the source and the sink have failed; what is answered
pub record LooksFrom {T : Type 0} (c : Counter) (left left_after taken taken_after : Option (List ℕ)) (source_failed sink_failed : Bool)
    (result : Result T LastingFault) : Type 0 where
  pub answers : OnOk result (IsAnsweredLook c left left_after taken taken_after)
  pub all : OnOk result (IsAtEnd left_after)
  pub stopped : IfErr result (LeavesLooks c left left_after taken taken_after)
  pub why : IfErr result (IsLooksCause left source_failed sink_failed)

-- ---- a file

-- this stood in the file, and the lines were answered on top of it
abbrev pub OnStanding : List ℕ → (Counter → Type 0) → Type 0
OnStanding file P = (before : Standing) × IsPlant file before × P (opening_on before)

-- what was told where a desk is stopped: before the first row nothing was given, and nothing written
abbrev pub LeavesLookDesk : (file : List ℕ) → (left left_after taken taken_after : Option (List ℕ)) → LastingFault → Type 0
LeavesLookDesk file left left_after taken taken_after (fault.NotAPlant row) = Keeps left left_after × Keeps taken taken_after
LeavesLookDesk file left left_after taken taken_after fault.Disk = Keeps left left_after × Keeps taken taken_after
LeavesLookDesk file left left_after taken taken_after fault.Memory =
    (Keeps left left_after × Keeps taken taken_after)
    ⊎ OnStanding file (λ c. IsUntoldLook c left left_after taken taken_after)
LeavesLookDesk file left left_after taken taken_after e =
    OnStanding file (λ c. LeavesLooks c left left_after taken taken_after e)

-- why a desk that only looks is stopped: as any desk is, but nothing is put into the file
abbrev pub IsLookDeskCause : (file : List ℕ) → (left : Option (List ℕ)) → (disk_failed source_failed sink_failed : Bool) → LastingFault
    → Type 0
IsLookDeskCause file left disk_failed source_failed sink_failed fault.Unsure = ⊥
IsLookDeskCause file left disk_failed source_failed sink_failed e = IsDeskCause file left disk_failed source_failed sink_failed e

-- A desk that only looks: the file, before and after; what a crash might have left of it before, and may leave after; what a crash at any
-- moment left; what was left in the source, before and after; what the sink has taken, before and after; which of the three have failed;
-- and what is answered.
pub record LookingDesk {T : Type 0} (file file_after : List ℕ) (may_leave may_leave_after : List ℕ → Type 0)
    (leaves : (List ℕ → Type 0) → Type 0) (left left_after taken taken_after : Option (List ℕ))
    (disk_failed source_failed sink_failed : Bool) (result : Result T LastingFault) : Type 0 where
  -- with Ok all lines were answered as looks on top of what stood in the file
  pub answers : OnOk result (OnStanding file (λ c. IsAnsweredLook c left left_after taken taken_after))
  pub all : OnOk result (IsAtEnd left_after)
  -- with Err the first of them were
  pub stopped : IfErr result (LeavesLookDesk file left left_after taken taken_after)
  -- and the fault says why
  pub why : IfErr result (IsLookDeskCause file left disk_failed source_failed sink_failed)
  -- the file has its bytes, and a crash at no moment left what it might not have left before
  pub untouched : file_after ≡ file
  pub now : (found : List ℕ) → may_leave_after found → may_leave found
  pub any_moment : leaves may_leave
