-- The parts so far, and those of the rows that are left.
use Rattle.std.proofs.Common.{◌≡◌, ◌≤◌, ◌-◌, ◌++◌, length, drop}
use Rattle.title_plat.specs.Parts.{parts_from, parts_of}
use Rattle.title_plat.proofs.parts.parts_of.Given as goal

abbrev pub invariant-loop-at : goal.invariant-loop-at
invariant-loop-at l = record {
  within : l.at ≤ length l.rows;
  parts : parts_of l.rows ≡ l.parts.items ++ parts_from l.at (drop l.at l.rows);
}

abbrev pub decreases-loop-at : goal.decreases-loop-at
decreases-loop-at l = length l.rows - l.at
