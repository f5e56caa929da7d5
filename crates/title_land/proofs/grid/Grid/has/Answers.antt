-- The bit of a cell, or none off the grid.
use Rattle.std.{proofs.{Common.{◌<◌, ◌≤◌, ap, sym, ◌∙◌, arith}, lemmas.{Bool.{le-ltb}, Nat.Bits.{shr_and_one}}}, specs.Prelude.{◌==◌}}
use Rattle.title_land.specs.{Depth.{depth}, Survey.{side}, RowBits.{is_set}, Laws.Sides.{side_is}}
use Rattle.title_land.proofs.GridRows.{has_at, has_past, has_below}
use Rattle.title_land.proofs.grid.Grid.has.Goals as goal

pub returns-then-column-lt-SIDE : goal.returns-then-column-lt-SIDE
returns-then-column-lt-SIDE c =
    let k = c.in-Some.ensures in
    let narrow : c.args.column < side depth = omega (arith, side_is) in
    let bit = has_at depth c.self.inside.rows c.args.row c.args.column k.lookup.3.0 narrow in
    record {
      has = rw (← c.self.view_is) (ap (λ (b : _). b == 1) (shr_and_one c.in-Some.cells.now c.args.column)
          ∙ ap (λ (x : _). is_set x c.args.column) (k.lookup.3.1 0) ∙ sym bit);
    }

pub returns-else-column-lt-SIDE : goal.returns-else-column-lt-SIDE
returns-else-column-lt-SIDE c =
    let k = c.in-Some.ensures in
    let wide : side depth ≤ c.args.column = omega (arith, side_is) in
    let none = has_past depth c.self.inside.rows c.args.row c.args.column k.lookup.3.0 wide in
    record { has = rw (← c.self.view_is) (le-ltb c.args.column _ c.if-column-lt-SIDE.false ∙ sym none) }

pub returns-in-None : goal.returns-in-None
returns-in-None c =
    let k = c.in-None.ensures in
    record { has = rw (← c.self.view_is) (sym (has_below depth c.self.inside.rows c.args.row c.args.column k.lookup.3)) }
