-- The rows of the parts so far are counted.
use Rattle.std.proofs.Common.{◌≡◌, length, take}
use Rattle.title_chain.specs.SheetParts.{all_rows}
use Rattle.title_chain.proofs.lists.count_rows.Given as goal

abbrev pub invariant-loop-part : goal.invariant-loop-part
invariant-loop-part l = l.count ≡ length (all_rows (take l.part-index l.parts))
