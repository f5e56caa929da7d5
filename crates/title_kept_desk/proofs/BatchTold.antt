-- How a batch ends: its answers can't be held, what it adds isn't kept, or its answers are written, or aren't.
use Rattle.std.{proofs.Common.{◌≡◌, ℕ, Bool, true, false, List, Option, Ok, Err}, specs.Io.KnownBytes.{Appends}}
use Rattle.title_counter.specs.{Counters.{Counter}, Sessions.{Answers}, Laws.GivenBytes.{keeps_itself}}
use Rattle.title_lasting.specs.{declared.fault.LastingFault.{LastingFault}, Lastings.{Begins}}
use Rattle.title_kept_desk.specs.{declared.mark.Mark.{Mark}, Sittings.{ComesTo, HasAtEither, HasCome, IsBatch, IsKeptTo, IsUpTo}}
use Rattle.title_lasting.specs.declared.fault.LastingFault.TheVariants as fault

-- further rows came
pub comes_on : (c d : Counter) (lines : List (List ℕ)) (text : List ℕ) → HasCome c → Answers c lines text d → ComesTo c d
comes_on c d lines text come answers = record { come = come; lines = lines; text = text; answers = answers }

module _ {D : Type 0} (seen : D → List ℕ) (may_leave : D → List ℕ → Type 0) (has_failed : D → Bool)
    (leaves : (List ℕ → Type 0) → Type 0) (disk : D) (mark : Mark) (c d : Counter) (lines : List (List ℕ)) (text : List ℕ)
    (answers : Answers c lines text d) (taken : Option (List ℕ)) where
  -- what is added isn't kept, and nothing is written
  pub unkept : (e : LastingFault) (sink_failed : Bool)
      → IsKeptTo seen may_leave has_failed {T = Unit {0}} (Err e) leaves disk mark c d
      → IsBatch seen may_leave has_failed {T = Unit {0}} (Err e) leaves disk mark c d lines taken taken sink_failed
  unkept (fault.NotAPlant row) sink_failed is = absurd is
  unkept fault.Disk sink_failed is = (is.0, is.1, is.2, keeps_itself taken)
  unkept fault.Unsure sink_failed is = (text, answers, is.0, is.1, is.2, keeps_itself taken)
  unkept (fault.After last) sink_failed is = absurd is
  unkept (fault.Row n) sink_failed is = absurd is
  unkept (fault.Order n) sink_failed is = absurd is
  unkept (fault.Party n) sink_failed is = absurd is
  unkept fault.Read sink_failed is = absurd is
  unkept (fault.Joins place) sink_failed is = absurd is
  unkept fault.Memory sink_failed is = (is.0, is.1, keeps_itself taken)
  unkept fault.Write sink_failed is = absurd is

  -- it is kept, and the sink fails, or takes all
  pub untold : (taken_after : Option (List ℕ)) (sink_failed : Bool)
      → IsUpTo seen may_leave has_failed disk mark d × leaves (HasAtEither c d) → Begins taken taken_after text → sink_failed ≡ true
      → IsBatch seen may_leave has_failed {T = Unit {0}} (Err fault.Write) leaves disk mark c d lines taken taken_after sink_failed
  untold taken_after sink_failed is begun failed = (text, answers, is.0, is.1, begun, failed)

  pub all_told : (taken_after : Option (List ℕ)) (sink_failed : Bool)
      → IsUpTo seen may_leave has_failed disk mark d × leaves (HasAtEither c d) → Appends taken taken_after text → sink_failed ≡ false
      → IsBatch seen may_leave has_failed {T = Unit {0}} (Ok tt) leaves disk mark c d lines taken taken_after sink_failed
  all_told taken_after sink_failed is written well = (text, answers, is.0, is.1, written, well)
