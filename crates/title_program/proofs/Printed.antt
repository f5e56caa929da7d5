-- What was printed of a text is a beginning of it.
use Rattle.std.proofs.Common.{ℕ, List, Bool, true, false, Option, length, take, take_all, sym, subst, arith}
use Rattle.std.specs.Io.KnownBytes.{Appends}
use Rattle.title_program.specs.{declared.status.Status.{Status}, Printing.{Prints}}

-- a beginning of the text, or all of it
pub printed_part : (text : List ℕ) (wanted : Status) (before after : Option (List ℕ)) (failed : Bool) (status : Status)
    → Prints text wanted before after failed status → (n : ℕ) × Appends before after (take n text)
printed_part text wanted before after false status h =
    (length text, subst (λ (t : List ℕ). Appends before after t) (sym (take_all (length text) text (omega arith))) h.0)
printed_part text wanted before after true status h = h.0
