-- What a counter answers to lines, and a whole session.
use Rattle.std.specs.Prelude.{◌≡◌, ◌<◌, ◌⊎◌, ℕ, Bool, true, List, [], ◌∷◌, ◌++◌, length, take, Option, IfSome, Result, IfErr, OnOk}
use Rattle.std.specs.Io.KnownBytes.{Appends, Consumes, IsAtEnd, Keeps}
use Rattle.title_land.specs.Depth.{depth}
use Rattle.title_store.specs.Plants.{Plant}
use Rattle.title_chain.specs.{declared.record.Record.{Record}, Alone.{IsSerial}}
use Rattle.title_trace.specs.{Trace.{committed}, Due.{IsDue}}
use Rattle.title_desk.specs.{Headline.{Headline}, Singles.{IsIdle}}
use Rattle.title_page.specs.{Pages.{Stopped, Written}, Rows.{row, rows_text}}
use Rattle.title_plan.specs.declared.fault.ScriptFault.TheVariants as script
use Rattle.title_report.specs.Replies.{end_row}
use Rattle.title_counter.specs.Counters.{Answered, Counter, aborted, counted, due_answer, opening, passed_over, setting_at}
use Rattle.title_counter.specs.{Limits.{most_given}, Lines.{all_lines, lines_in}, declared.fault.CounterFault.{CounterFault}}
use Rattle.title_counter.specs.declared.fault.CounterFault.TheVariants as fault

-- ---- answers

-- what may be answered to a line: the due answer; or that memory is wanted, and nothing has changed
abbrev pub MayAnswer : Counter → List ℕ → Answered → Type 0
MayAnswer c line answer = (answer ≡ due_answer c line) ⊎ (answer ≡ passed_over (counted c) script.Memory)

-- a text answers lines one after another
abbrev pub Answers : Counter → List (List ℕ) → List ℕ → Counter → Type 0
Answers c [] text after = (text ≡ []) × (after ≡ c)
Answers c (line ∷ lines) text after =
    (answer : Answered) × (more : List ℕ) × MayAnswer c line answer × Answers answer.after lines more after
    × (text ≡ rows_text answer.rows ++ more)

-- lines were answered through a page
pub record GotAnswers (before : Counter) (lines : List (List ℕ)) (after : Counter) (taken : Option (List ℕ)) (page : List ℕ)
    (taken_after : Option (List ℕ)) (page_after : List ℕ) : Type 0 where
  pub text : List ℕ
  pub answers : Answers before lines text after
  pub written : Written taken page taken_after page_after text

-- the sink failed while lines were answered: the first of them were
pub record LostAnswers (before : Counter) (lines : List (List ℕ)) (after : Counter) (taken : Option (List ℕ)) (page : List ℕ)
    (taken_after : Option (List ℕ)) : Type 0 where
  pub first : List (List ℕ)
  pub more : List (List ℕ)
  pub lines_are : lines ≡ first ++ more
  pub text : List ℕ
  pub answers : Answers before first text after
  pub stopped : Stopped taken page taken_after text

-- ---- a session

-- the desk is as it has to be: each reply was the due one, and what is committed is serial
pub record IsSound (c : Counter) : Type 0 where
  pub due : IsDue depth (setting_at c) c.trace
  pub serial : IsSerial depth c.townships (committed c.trace)

-- the text of a session over bytes that have come to their end: the answers to all lines, and a last row with the number of steps
pub record Session (bytes text : List ℕ) (after : Counter) : Type 0 where
  pub answered : List ℕ
  pub answers : Answers opening (all_lines bytes) answered after
  pub whole : text ≡ answered ++ row (end_row after.steps)

-- the end of a session: open transactions are aborted, and of the desk then all is true that the headline says
pub record Ends (c : Counter) : Type 0 where
  pub examiners : List ℕ
  pub idle : IsIdle (aborted c examiners).trace
  pub content : Plant
  pub records : List Record
  pub headline : Headline (setting_at c) (aborted c examiners).trace content records

-- lines were answered, and their answers passed on
pub record PassedBatch (before : Counter) (lines : List (List ℕ)) (after : Counter) (taken taken_after : Option (List ℕ)) : Type 0 where
  pub text : List ℕ
  pub answers : Answers before lines text after
  pub written : Appends taken taken_after text

-- the sink failed meanwhile
pub record LostBatch (before : Counter) (lines : List (List ℕ)) (after : Counter) (taken taken_after : Option (List ℕ)) : Type 0 where
  pub first : List (List ℕ)
  pub more : List (List ℕ)
  pub lines_are : lines ≡ first ++ more
  pub text : List ℕ
  pub answers : Answers before first text after
  pub count : ℕ
  pub written : Appends taken taken_after (take count text)

-- the last line was answered through an empty page, open transactions were aborted, and the last row was written
pub record Ended (before : Counter) (lines : List (List ℕ)) (taken taken_after : Option (List ℕ)) : Type 0 where
  pub text : List ℕ
  pub after : Counter
  pub answers : Answers before lines text after
  pub written : Appends taken taken_after (text ++ row (end_row after.steps))
  pub sound : IsSound after
  pub ends : Ends after

-- the sink failed meanwhile
pub record BrokenOff (before : Counter) (lines : List (List ℕ)) (taken taken_after : Option (List ℕ)) : Type 0 where
  pub first : List (List ℕ)
  pub more : List (List ℕ)
  pub lines_are : lines ≡ first ++ more
  pub text : List ℕ
  pub after : Counter
  pub answers : Answers before first text after
  pub all : List ℕ
  pub all_is : (all ≡ text) ⊎ ((more ≡ []) × (all ≡ text ++ row (end_row after.steps)))
  pub count : ℕ
  pub written : Appends taken taken_after (take count all)
  pub sound : IsSound after

-- between two pulls: these bytes were given, the answers to all whole lines in them were written, and the rest of them waits
pub record IsBetween (left left_after taken taken_after : Option (List ℕ)) (counter : Counter) (line : List ℕ) (count : ℕ) : Type 0 where
  pub given : List ℕ
  pub consumed : Consumes left left_after given
  pub text : List ℕ
  pub answers : Answers opening (lines_in given).whole text counter
  pub written : Appends taken taken_after text
  pub rest : line ≡ (lines_in given).rest
  pub counts : count ≡ length given

-- ---- what attending does

-- all bytes of the source were given, and the text of a session over them was written
pub record IsAnswered (left : List ℕ) (taken taken_after : Option (List ℕ)) : Type 0 where
  pub text : List ℕ
  pub after : Counter
  pub session : Session left text after
  pub written : Appends taken taken_after text
  pub sound : IsSound after
  pub ends : Ends after

-- these bytes were given, and the answers to all whole lines in them were written: no answer waits for more
pub record AtOnce (left left_after taken taken_after : Option (List ℕ)) : Type 0 where
  pub given : List ℕ
  pub consumed : Consumes left left_after given
  pub text : List ℕ
  pub after : Counter
  pub answers : Answers opening (lines_in given).whole text after
  pub written : Appends taken taken_after text
  pub sound : IsSound after

-- a text answers the first lines of bytes
pub record IsPart (bytes text : List ℕ) (after : Counter) : Type 0 where
  pub lines : List (List ℕ)
  pub more : List (List ℕ)
  pub first : all_lines bytes ≡ lines ++ more
  pub answers : Answers opening lines text after

-- these bytes were given, and a beginning of answers to their lines was written, or of the text of a session over them
pub record IsBegun (left left_after taken taken_after : Option (List ℕ)) : Type 0 where
  pub given : List ℕ
  pub consumed : Consumes left left_after given
  pub text : List ℕ
  pub after : Counter
  pub answers : IsPart given text after ⊎ Session given text after
  pub count : ℕ
  pub written : Appends taken taken_after (take count text)
  pub sound : IsSound after

-- what stands written after a fault
abbrev pub Leaves : (left left_after taken taken_after : Option (List ℕ)) → CounterFault → Type 0
Leaves left left_after taken taken_after fault.Read = AtOnce left left_after taken taken_after
Leaves left left_after taken taken_after fault.Write = IsBegun left left_after taken taken_after
Leaves left left_after taken taken_after fault.Memory = Keeps left left_after × Keeps taken taken_after

-- why attending fails: the source or the sink has failed, or the source gave more bytes than anybody waits for
abbrev pub IsCause : Option (List ℕ) → (source_failed sink_failed : Bool) → CounterFault → Type 0
IsCause left source_failed sink_failed fault.Read = (source_failed ≡ true) ⊎ IfSome left (λ bytes. most_given < length bytes)
IsCause left source_failed sink_failed fault.Write = sink_failed ≡ true
IsCause left source_failed sink_failed fault.Memory = Unit {0}

-- attending: what was left in the source, before and after, and whether it has failed; what the sink has taken, before and after, and
-- whether it has failed; what is answered
pub record IsAttended {T : Type 0} (left left_after : Option (List ℕ)) (source_failed : Bool) (taken taken_after : Option (List ℕ))
    (sink_failed : Bool) (result : Result T CounterFault) : Type 0 where
  pub answers : OnOk result (IfSome left (λ bytes. IsAnswered bytes taken taken_after))
  pub all : OnOk result (IsAtEnd left_after)
  pub leaves : IfErr result (Leaves left left_after taken taken_after)
  pub why : IfErr result (IsCause left source_failed sink_failed)
