-- What is left of the rows, and that the first other is the first among them.
use Rattle.std.proofs.Common.{◌≡◌, ◌+◌, ◌-◌, ℕ, List, take}
use Rattle.title_plan.specs.Limits.{most_rows}
use Rattle.title_lasting.specs.{Readers.{RowsLeft}, LookRows.{first_other, other_in}}
use Rattle.title_lasting.proofs.look_rows.find_other.Given as goal

abbrev pub invariant-loop-before : goal.invariant-loop-before
invariant-loop-before l = record {
  left : List (List (List ℕ));
  rows : RowsLeft l.reader left;
  other : other_in l.text ≡ first_other (l.before + 1) (take (most_rows - l.before) left);
}
