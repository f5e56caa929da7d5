-- One row more is one examiner's.
use Rattle.std.proofs.Common.{◌≤◌, ◌++◌, ◌∷◌, [], ℕ, Option, reverse, subst, sym, ap, ◌∙◌, arith}
use Rattle.title_land.specs.{Depth.{depth}}
use Rattle.title_lock.specs.{declared.{guards.Entry.{Entry}, modes.Mode.{Mode}}, Modes.{bound}, Asking.{mode_at}}
use Rattle.title_lock.{specs.Holders.{own_part, count_in}, proofs.{CountLaws.{own_counted, count_few}, RowLaws.{row_counted}}}
use Rattle.title_lock.proofs.row_locks.+counted.Goals as goal

pub moved-requires-clause-counted : goal.moved-requires-clause-counted
moved-requires-clause-counted t c m =
    let held = λ (f : ℕ). mode_at depth (reverse c.in-Some.older.now) f c.args.node.now in
    let k = count_in c.counted-counts.result m in
    subst (λ (o : Option Mode). own_part o m ≤ k) (sym c.mode_in-had.ensures.mode)
    (own_counted held m k c.entry-entry.result.now.examiner (c.counted-counts.ensures.counted m))

pub moved-requires-clause-fits : goal.moved-requires-clause-fits
moved-requires-clause-fits t c m =
    let held = λ (f : ℕ). mode_at depth (reverse c.in-Some.older.now) f c.args.node.now in
    let k = count_in c.counted-counts.result m in
    let few : k ≤ 4294967296 = count_few held m k 4294967296 c.counted-counts.ensures.few (c.counted-counts.ensures.counted m) in
    omega (arith, few)

pub returns-clause-counted : goal.returns-clause-counted
returns-clause-counted t c m =
    row_counted depth c.args.rows.now c.in-Some.older.now c.entry-entry.result.now c.args.node.now m (count_in c.counted-counts.result m)
    (count_in c.moved.result m) c.mode_in-had.result c.bound.result
    (c.in-Some.ensures.cases.0 ∙ ap (λ (x : Entry). c.in-Some.older.now ++ x ∷ []) (sym c.entry-entry.ensures.entry))
    c.mode_in-had.ensures.mode (c.bound.ensures.bound ∙ ap (λ (o : Option Mode). bound o c.mode_in-had.result) c.mode_by.ensures.mode)
    (c.counted-counts.ensures.counted m) (c.moved.ensures.moved m)
