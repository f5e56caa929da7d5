-- Rows with no bit have no cell.
use Rattle.std.proofs.{Common.{sym, false}, lemmas.Nat.{pow_pos}}
use Rattle.title_land.specs.{declared.rectangle.TheConstants.{ROWS}, Depth.{depth}, Survey.{side}, Laws.GridLaws.{has_none}}
use Rattle.title_land.{proofs.{GridRows.{one_rows, one_row}, RowBits.{zero_clear}}, specs.Laws.Sides.{rows_are}}
use Rattle.title_land.proofs.grid.Grid.empty.Goals as goal

pub invariant_of-result : goal.invariant_of-result
invariant_of-result c = one_rows depth ROWS 0 (sym rows_are) (pow_pos (side depth))

pub returns-clause-empty : goal.returns-clause-empty
returns-clause-empty c = one_row depth ROWS 0 false (sym rows_are) (λ column h. zero_clear column)

pub returns-clause-has : goal.returns-clause-has
returns-clause-has c = has_none depth _ (returns-clause-empty c)
