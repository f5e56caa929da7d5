-- The parts have the same rows where what is left of them has.
use Rattle.std.proofs.Common.{◌≡◌, length}
use Rattle.title_chain.specs.SheetParts.{all_rows}
use Rattle.title_chain.proofs.same_sheets.same_parts.Given as goal

abbrev pub invariant-loop-part : goal.invariant-loop-part
invariant-loop-part l = ((all_rows l.part-iterator.a.rest.now ≡ all_rows l.part-iterator.b.rest.now) → (all_rows l.a ≡ all_rows l.b))
    × (length l.part-iterator.a.rest.now ≡ length l.part-iterator.b.rest.now)
