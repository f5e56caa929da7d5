-- How a desk's rows end: the last line's batch isn't told, or the last row isn't written; or all is written.
use Rattle.std.proofs.Common.{◌≡◌, ◌++◌, ℕ, Bool, true, false, List, Option, Ok, Err, inl, inr}
use Rattle.std.specs.Io.KnownBytes.{Appends}
use Rattle.csv.proofs.WriteFacts.{appends-more}
use Rattle.title_counter.specs.{Counters.{Counter}, Sessions.{Answers, Ends, IsSound}, Laws.GivenBytes.{part_then}}
use Rattle.title_lasting.specs.{declared.fault.LastingFault.{LastingFault}, Lastings.{Begins}}
use Rattle.title_kept_desk.specs.{declared.mark.Mark.{Mark}, Sittings.{HasAtEither, IsBatch, IsEnded, IsUpTo, end_text}}
use Rattle.title_lasting.specs.declared.fault.LastingFault.TheVariants as fault

-- a beginning of a text behind another that was written whole
pub begins_then : (a b d : Option (List ℕ)) (t u : List ℕ) → Appends a b t → Begins b d u → Begins a d (t ++ u)
begins_then a b d t u h begun = part_then a b d t u begun.0 h begun.1

module _ {D : Type 0} (seen : D → List ℕ) (may_leave : D → List ℕ → Type 0) (has_failed : D → Bool)
    (leaves : (List ℕ → Type 0) → Type 0) (disk : D) (mark : Mark) (c d : Counter) (lines : List (List ℕ)) (sound : IsSound d)
    (taken middle : Option (List ℕ)) where
  -- the last line's batch isn't told
  pub unended : (e : LastingFault) (sink_failed : Bool)
      → IsBatch seen may_leave has_failed {T = Unit {0}} (Err e) leaves disk mark c d lines taken middle sink_failed
      → IsEnded seen may_leave has_failed {T = Unit {0}} (Err e) leaves disk mark c lines taken middle sink_failed
  unended (fault.NotAPlant row) sink_failed is = (d, sound, is)
  unended fault.Disk sink_failed is = (d, sound, is)
  unended fault.Unsure sink_failed is = (d, sound, is)
  unended (fault.After last) sink_failed is = (d, sound, is)
  unended (fault.Row n) sink_failed is = (d, sound, is)
  unended (fault.Order n) sink_failed is = (d, sound, is)
  unended (fault.Party n) sink_failed is = (d, sound, is)
  unended fault.Read sink_failed is = (d, sound, is)
  unended (fault.Joins place) sink_failed is = (d, sound, is)
  unended fault.Memory sink_failed is = (d, sound, is)
  unended fault.Write sink_failed is = (d, sound, (is.0, is.1, is.2, is.3, inl is.4, is.5))

  -- it is told, and the sink fails in the last row, or takes it
  pub unwritten : (after : Option (List ℕ)) (then_failed sink_failed : Bool)
      → ((text : List ℕ) × Answers c lines text d × IsUpTo seen may_leave has_failed disk mark d × leaves (HasAtEither c d)
      × Appends taken middle text × (then_failed ≡ false))
      → Begins middle after (end_text d) → sink_failed ≡ true
      → IsEnded seen may_leave has_failed {T = Unit {0}} (Err fault.Write) leaves disk mark c lines taken after sink_failed
  unwritten after then_failed sink_failed is begun failed =
      (d, sound, (is.0, is.1, is.2, is.3, inr (begins_then taken middle after is.0 (end_text d) is.4 begun), failed))

  pub ended_whole : (after : Option (List ℕ)) (then_failed sink_failed : Bool)
      → ((text : List ℕ) × Answers c lines text d × IsUpTo seen may_leave has_failed disk mark d × leaves (HasAtEither c d)
      × Appends taken middle text × (then_failed ≡ false))
      → Appends middle after (end_text d) → Ends d
      → IsEnded seen may_leave has_failed {T = Unit {0}} (Ok tt) leaves disk mark c lines taken after sink_failed
  ended_whole after then_failed sink_failed is written ends =
      (d, sound, ends, (is.0, is.1, is.2, is.3, appends-more taken middle after is.0 (end_text d) is.4 written))
