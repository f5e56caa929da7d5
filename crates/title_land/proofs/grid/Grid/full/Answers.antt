-- Rows with a bit for each column have every cell.
use Rattle.std.proofs.{Common.{sym, true, ◌+◌, subst, ◌∙◌, arith}, lemmas.Bool.{and_from, le-leb, lt-ltb}}
use Rattle.title_land.specs.{declared.rectangle.TheConstants.{ROWS}, Depth.{depth}, Survey.{side}, RowBits.{HasColumns}}
use Rattle.title_land.{specs.{declared.rectangle.Rectangle.{Rectangle}, Laws.GridLaws.{has_every}}, proofs.GridRows.{one_rows, one_row}}
use Rattle.title_land.specs.Laws.Sides.{rows_are}
use Rattle.title_land.proofs.grid.Grid.full.Goals as goal

pub invariant_of-result : goal.invariant_of-result
invariant_of-result c = one_rows depth ROWS c.columns_of-columns.result (sym rows_are) c.columns_of-columns.ensures.fits

pub returns-clause-full : goal.returns-clause-full
returns-clause-full c =
    let columns = subst (λ (r : Rectangle). HasColumns c.columns_of-columns.result r.left r.width) c.section.ensures.section
    c.columns_of-columns.ensures.columns in
    one_row depth ROWS c.columns_of-columns.result true (sym rows_are)
    (λ column h. columns column ∙ and_from _ _ (le-leb 0 column (omega arith)) (lt-ltb column (0 + side depth) (omega arith)))

pub returns-clause-has : goal.returns-clause-has
returns-clause-has c = has_every depth _ (returns-clause-full c)
