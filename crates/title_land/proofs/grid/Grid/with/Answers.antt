-- The rows of a rectangle have its columns added.
use Rattle.std.proofs.Common.{◌≡◌, ◌+◌, ap, subst, ◌∙◌, ℕ, arith}
use Rattle.title_land.specs.{declared.grid.Grid.{Grid}, Depth.{depth}, Grids.{with_rectangle}, Laws.GridLaws.{adds_rectangle}}
use Rattle.title_land.proofs.GridRows.{AddsMask, mask_rows, rows_with}
use Rattle.title_land.proofs.grid.Grid.with.Goals as goal

pub invariant_of-result : goal.invariant_of-result
invariant_of-result c =
    mask_rows depth c.args.r.top c.loop-row.row c.columns_of-columns.result c.self.inside.rows c.loop-row.rows c.self.invariant
    c.columns_of-columns.ensures.fits c.loop-row.invariant

pub returns-clause-with : goal.returns-clause-with
returns-clause-with c =
    let r = c.args.r in
    let end : c.loop-row.row ≡ r.top + r.height = omega arith in
    let adds = subst (λ (row : ℕ). AddsMask r.top row c.columns_of-columns.result c.self.inside.rows c.loop-row.rows) end
    c.loop-row.invariant in
    rows_with depth c.self.inside.rows c.loop-row.rows r c.columns_of-columns.result c.self.invariant c.columns_of-columns.ensures.columns
    adds
    ∙ ap (λ (g : Grid). with_rectangle depth g r) c.self.view_is

pub returns-clause-adds : goal.returns-clause-adds
returns-clause-adds c = adds_rectangle depth c.args.self _ c.args.r (returns-clause-with c)
