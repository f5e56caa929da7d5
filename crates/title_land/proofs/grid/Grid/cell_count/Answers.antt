-- The cells counted are those that the set has.
use Rattle.std.{proofs.Common.{◌<◌, ◌≤◌, ◌+◌, ℕ, List, length, get_or, sum_by, sym, ap, ◌∙◌, arith}, specs.Prelude.{count_ones}}
use Rattle.std.proofs.lemmas.{List.{take_all, Sums.{sum_by_more}}, Nat.{ones-le}}
use Rattle.title_land.{specs.{Depth.{depth}, Survey.{side}}, proofs.{GridCounts.{counts}, GridRows.{rows_counted, rows_sized, count_more}}}
use Rattle.title_land.proofs.grid.Grid.cell_count.Goals as goal

pub loop-row-preserved : goal.loop-row-preserved
loop-row-preserved c =
    let rows = c.self.inside.rows in
    let i = c.loop-row.row-index in
    let here : i < length rows = omega arith in
    record {
      counted = ap (λ (n : ℕ). n + count_ones (get_or rows i 0)) c.loop-row.invariant.counted ∙ sym (sum_by_more count_ones rows i 0 here);
      most = count_more (side depth) i c.loop-row.count (count_ones (get_or rows i 0)) c.loop-row.invariant.most
          (ones-le (side depth) (get_or rows i 0) (c.self.invariant.1 i 0 here));
    }

pub returns-clause-count : goal.returns-clause-count
returns-clause-count c =
    let rows = c.self.inside.rows in
    let all : length rows ≤ c.loop-row.row-index = omega arith in
    rw (← c.self.view_is) (c.loop-row.invariant.counted
    ∙ ap (λ (xs : List ℕ). sum_by count_ones xs) (take_all c.loop-row.row-index rows all) ∙ rows_counted depth rows c.self.invariant)

pub returns-clause-cells : goal.returns-clause-cells
returns-clause-cells c =
    returns-clause-count c ∙ counts depth c.args.self.now (rw (← c.self.view_is) (rows_sized depth c.self.inside.rows c.self.invariant))
