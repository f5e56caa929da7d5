-- The rows of the parts so far, and those that are left, are all rows.
use Rattle.std.proofs.Common.{◌≡◌, ◌++◌, length}
use Rattle.title_chain.specs.SheetParts.{all_rows}
use Rattle.title_chain.proofs.lists.parts_of.Given as goal

abbrev pub invariant-loop-first : goal.invariant-loop-first
invariant-loop-first l = all_rows l.parts.items ++ l.left ≡ l.rows

abbrev pub decreases-loop-first : goal.decreases-loop-first
decreases-loop-first l = length l.left
