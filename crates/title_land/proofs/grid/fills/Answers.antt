-- The next row.
use Rattle.std.{proofs.Common.{◌≡◌, ◌+◌, ◌^◌, ◌<◌, ℕ, List, length, get_or, sym, subst, ◌∙◌, arith}, specs.Prelude.{◌==◌, bit_and}}
use Rattle.std.proofs.lemmas.Bool.{eq-eqb, ne_eqb}
use Rattle.title_land.specs.{declared.{grid.Grid.{Grid}, rectangle.Rectangle.{Rectangle}}, Depth.{depth}, Grids.{row_fills, grid_has}}
use Rattle.title_land.specs.{Survey.{side}, Rectangles.{InSection}, RowBits.{grid_cells, HasColumns, IsRows}}
use Rattle.title_land.proofs.{GridRows.{row_filled}, Ranges.{range_all_next, range_all_stop}}
use Rattle.title_land.proofs.grid.fills.Goals as goal

-- a row of the rectangle, by its number
filled : (rows : List ℕ) (g : Grid) (r : Rectangle) (row mask : ℕ) → grid_cells depth rows ≡ g → IsRows depth rows
    → row < r.top + r.height → InSection depth r → mask < 2 ^ side depth → HasColumns mask r.left r.width
    → (bit_and (get_or rows row 0) mask == mask) ≡ row_fills (grid_has g) r row
filled rows g r row mask e h l inside low columns =
    let here : row < length rows = omega (arith, inside.0, h.0) in
    subst (λ (x : Grid). (bit_and (get_or rows row 0) mask == mask) ≡ row_fills (grid_has x) r row) e
    (row_filled depth rows r row mask here inside low columns)

pub returns-then-grid-row : goal.returns-then-grid-row
returns-then-grid-row c =
    let columns = c.columns_of-columns.result in
    let row = filled c.grid.inside.rows c.args.grid.now c.args.r c.loop-row.row columns c.grid.view_is c.grid.invariant
    c.loop-row-test.true c.requires.inside c.columns_of-columns.ensures.fits c.columns_of-columns.ensures.columns in
    record {
      fills = sym (c.loop-row.invariant
          ∙ range_all_stop _ _ _ c.loop-row-test.true (sym row ∙ ne_eqb _ columns c.if-grid-row.true));
    }

pub loop-row-preserved : goal.loop-row-preserved
loop-row-preserved c =
    let columns = c.columns_of-columns.result in
    let row = filled c.grid.inside.rows c.args.grid.now c.args.r c.loop-row.row columns c.grid.view_is c.grid.invariant
    c.loop-row-test.true c.requires.inside c.columns_of-columns.ensures.fits c.columns_of-columns.ensures.columns in
    c.loop-row.invariant ∙ range_all_next _ _ _ c.loop-row-test.true (sym row ∙ eq-eqb _ columns c.if-grid-row.false)
