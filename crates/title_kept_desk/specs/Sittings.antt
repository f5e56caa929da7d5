-- What rows at a desk come to on top of a plant's file. A file is seen by its bytes, and by what a crash may leave of it; lists of
-- records and of calls have the newest first.
use Rattle.std.specs.Prelude.{◌≡◌, ◌⊎◌, ◌++◌, ◌==◌, ℕ, Bool, true, false, List, [], ◌∷◌, Option, Result, Ok, Err, length, map, not}
use Rattle.std.specs.Io.KnownBytes.{Appends, Keeps}
use Rattle.title_trace.specs.Trace.{committed}
use Rattle.title_journal.specs.Rest.{IsAtRest}
use Rattle.title_page.specs.Rows.{rows_text}
use Rattle.title_report.specs.Replies.{end_row}
use Rattle.title_standing.specs.Standing.{kept, replayed}
use Rattle.title_daybook.specs.{Files.{IsPlant, standing_in}, Standing.{Standing}}
use Rattle.title_counter.specs.{Counters.{Counter}, Sessions.{Answers, Ends, IsSound}}
use Rattle.title_lasting.specs.{declared.fault.LastingFault.{LastingFault}, Lastings.{Begins}, Made.{HasStood}}
use Rattle.title_kept_desk.specs.declared.mark.Mark.{Mark}
use Rattle.title_lasting.specs.declared.fault.LastingFault.TheVariants as fault

-- ---- what stands at a counter

-- the counter before the first row: what stood in the file, and nothing else. Where transactions stand no township joins by a row
abbrev pub opening_on : Standing → Counter
opening_on s = record {
  townships = s.townships;
  names = s.names;
  rows = 0;
  steps = 0;
  shut = not (length s.records == 0);
  trace = replayed s.records;
}

-- what stands at a counter: all that is declared, and what is kept of all that was committed
abbrev pub stands_at : Counter → Standing
stands_at c = record { townships = c.townships; names = c.names; records = map kept (committed c.trace) }

-- the last row, which tells how many step rows there were
abbrev pub end_text : Counter → List ℕ
end_text c = rows_text (end_row c.steps ∷ [])

-- a file has what stands at a counter
abbrev pub HasAt : Counter → List ℕ → Type 0
HasAt c file = IsPlant file (stands_at c)

-- a file has what stands at the one counter or at the other
abbrev pub HasAtEither : Counter → Counter → List ℕ → Type 0
HasAtEither c d file = HasAt c file ⊎ HasAt d file

-- Rows were answered by a text. A file has what the first of them came to, and of the text its first part answers these and the rest
-- the others.
pub record HasPart (before : Counter) (lines : List (List ℕ)) (text : List ℕ) (after : Counter) (file : List ℕ) : Type 0 where
  pub first : List (List ℕ)
  pub more : List (List ℕ)
  pub lines_are : lines ≡ first ++ more
  pub said : List ℕ
  pub rest : List ℕ
  pub text_is : text ≡ said ++ rest
  pub at : Counter
  pub answers : Answers before first said at
  pub others : Answers at more rest after
  pub plant : HasAt at file

-- ---- from batch to batch

-- rows came to a counter on top of what stood in a file
pub record HasCome (c : Counter) : Type 0 where
  pub file : List ℕ
  pub before : Standing
  pub stood : standing_in file ≡ Ok before
  pub lines : List (List ℕ)
  pub text : List ℕ
  pub answers : Answers (opening_on before) lines text c

-- and further rows came to another
pub record ComesTo (c d : Counter) : Type 0 where
  pub come : HasCome c
  pub lines : List (List ℕ)
  pub text : List ℕ
  pub answers : Answers c lines text d

-- A file is seen by its bytes, by what a crash may leave of it, and by whether it has failed.
module _ {D : Type 0} (seen : D → List ℕ) (may_leave : D → List ℕ → Type 0) (has_failed : D → Bool) where
  -- the file is at rest, all of it on the disk, and has what stands at a counter; the mark says how much that is
  pub record IsUpTo (disk : D) (mark : Mark) (c : Counter) : Type 0 where
    pub rest : IsAtRest seen may_leave has_failed disk mark.gate.offset
    pub stands : HasAt c (seen disk)
    pub so_much : HasStood mark.stood (stands_at c)

  -- what a crash may leave now has P
  abbrev pub Now : D → (List ℕ → Type 0) → Type 0
  Now disk P = (file : List ℕ) → may_leave disk file → P file

  -- What rows have added by which one counter came from another is put into the file. With Ok it is on the disk. Where memory was
  -- wanted, or the disk failed before its mark, what stood before the rows stands; where it failed at the mark, the one or the other.
  abbrev pub IsKeptTo : {T : Type 0} → Result T LastingFault → (leaves : (List ℕ → Type 0) → Type 0) → (disk : D) → Mark
      → (c d : Counter) → Type 0
  IsKeptTo (Ok value) leaves disk mark c d = IsUpTo disk mark d × leaves (HasAtEither c d)
  IsKeptTo (Err fault.Memory) leaves disk mark c d = IsUpTo disk mark c × leaves (HasAt c)
  IsKeptTo (Err fault.Disk) leaves disk mark c d = (has_failed disk ≡ true) × leaves (HasAt c) × Now disk (HasAt c)
  IsKeptTo (Err fault.Unsure) leaves disk mark c d = (has_failed disk ≡ true) × leaves (HasAtEither c d) × Now disk (HasAtEither c d)
  IsKeptTo (Err _) leaves disk mark c d = ⊥

  -- What comes of the lines of a batch. With Ok each was served, what they added is on the disk, and the text of their answers was
  -- written behind that. Where memory was wanted for the answers or for what is added, or the disk failed before its mark, what stood
  -- before the batch stands; where it failed at the mark, the one or the other; and nothing was written. Where the sink failed all is on
  -- the disk, and a beginning of the text was written.
  abbrev pub IsBatch : {T : Type 0} → Result T LastingFault → (leaves : (List ℕ → Type 0) → Type 0) → (disk : D) → Mark → (c d : Counter)
      → (lines : List (List ℕ)) → (taken taken_after : Option (List ℕ)) → (sink_failed : Bool) → Type 0
  IsBatch (Ok value) leaves disk mark c d lines taken taken_after sink_failed =
      (text : List ℕ) × Answers c lines text d × IsUpTo disk mark d × leaves (HasAtEither c d) × Appends taken taken_after text
      × (sink_failed ≡ false)
  IsBatch (Err fault.Memory) leaves disk mark c d lines taken taken_after sink_failed =
      IsUpTo disk mark c × leaves (HasAt c) × Keeps taken taken_after
  IsBatch (Err fault.Disk) leaves disk mark c d lines taken taken_after sink_failed =
      (has_failed disk ≡ true) × leaves (HasAt c) × Now disk (HasAt c) × Keeps taken taken_after
  IsBatch (Err fault.Unsure) leaves disk mark c d lines taken taken_after sink_failed =
      (text : List ℕ) × Answers c lines text d × (has_failed disk ≡ true) × leaves (HasAtEither c d) × Now disk (HasAtEither c d)
      × Keeps taken taken_after
  IsBatch (Err fault.Write) leaves disk mark c d lines taken taken_after sink_failed =
      (text : List ℕ) × Answers c lines text d × IsUpTo disk mark d × leaves (HasAtEither c d) × Begins taken taken_after text
      × (sink_failed ≡ true)
  IsBatch (Err _) leaves disk mark c d lines taken taken_after sink_failed = ⊥

  -- What comes of the last line, and of the end: as of a batch; and then open transactions are aborted and the last row is written, or the
  -- sink fails there.
  abbrev pub IsEnded : {T : Type 0} → Result T LastingFault → (leaves : (List ℕ → Type 0) → Type 0) → (disk : D) → Mark → (c : Counter)
      → (lines : List (List ℕ)) → (taken taken_after : Option (List ℕ)) → (sink_failed : Bool) → Type 0
  IsEnded (Ok value) leaves disk mark c lines taken taken_after sink_failed =
      (d : Counter) × IsSound d × Ends d
      × ((text : List ℕ) × Answers c lines text d × IsUpTo disk mark d × leaves (HasAtEither c d)
      × Appends taken taken_after (text ++ end_text d))
  IsEnded (Err fault.Write) leaves disk mark c lines taken taken_after sink_failed =
      (d : Counter) × IsSound d
      × ((text : List ℕ) × Answers c lines text d × IsUpTo disk mark d × leaves (HasAtEither c d)
      × (Begins taken taken_after text ⊎ Begins taken taken_after (text ++ end_text d)) × (sink_failed ≡ true))
  IsEnded (Err e) leaves disk mark c lines taken taken_after sink_failed =
      (d : Counter) × IsSound d
      × IsBatch {T = Unit {0}} (Err e) leaves disk mark c d lines taken taken_after sink_failed
