-- The walk is the move.
use Rattle.std.proofs.Common.{◌≤◌, ◌++◌, ◌∙◌, ℕ, [], get_or, ap, subst, arith}
use Rattle.title_share.specs.{Rows.{with_front}, Laws.{RowLaws.{units_within}, DivisionLaws.{divides}}}
use Rattle.title_share.proofs.MoveLaws.{each_within, units_there, walk_on, walk_gives, walk_gave, walk_moves}
use Rattle.title_share.proofs.holding.rows_after.Goals.{then-not-given+in_ok-push_some-3, else-not-given}
use Rattle.title_share.proofs.holding.rows_after.Goals as goal

pub gained-requires : goal.gained-requires
gained-requires c =
    let rows = c.args.rows.now in
    let row = each_within rows c.loop-row.row-index (0, 0) c.loop-row-test.true in
    let all = (divides rows c.requires.divide).sum in
    let most = units_within c.args.from rows in
    let held = c.requires.held in
    record { fits = omega arith }

pub left-requires : goal.left-requires
left-requires c = record {
  held = λ same.
      let there = units_there c.args.from 0 c.args.rows.now c.loop-row.row-index (0, 0)
      (divides c.args.rows.now c.requires.divide).ordered c.loop-row-test.true same in
      subst (λ (n : ℕ). c.args.units ≤ n) there c.requires.held;
}

pub loop-row-preserved : goal.loop-row-preserved
loop-row-preserved c =
    walk_on c.args.from c.args.to c.args.units c.loop-row.given c.args.rows.now
    c.loop-row.after.items c.push_some.new.rows.items c.push_some-in-loop-row.new.rows.items _ c.loop-row.row-index (0, 0)
    c.requires.some c.loop-row-test.true
    (c.in_ok-push_some.ensures.rows ∙ ap (λ (n : ℕ). c.loop-row.after.items ++ with_front c.args.to n []) c.gained.ensures.gained)
    (c.in_ok-push_some-2.ensures.rows ∙ ap
    (λ (n : ℕ). c.push_some.new.rows.items ++ with_front (get_or c.args.rows.now c.loop-row.row-index (0, 0)).0 n
    []) c.left.ensures.left)
    c.loop-row.invariant

pub returns : goal.returns
returns c =
    let rows = c.args.rows.now in
    let moves = walk_moves c.args.from c.args.to c.args.units rows c.requires.apart c.requires.some c.requires.held
    (divides rows c.requires.divide).ordered in
    record {
      rows = elim c.if-not-given.branch [
        | then-not-given+in_ok-push_some-3 w ↦ ap (λ v. v.items) w.after-is
            ∙ walk_gives c.args.from c.args.to c.args.units c.loop-row.given rows c.loop-row.after.items _ _ c.loop-row.row-index
            c.requires.some c.loop-row-test.false w.if-not-given.true w.in_ok-push_some-3.ensures.rows c.loop-row.invariant
            ∙ moves
        | else-not-given w ↦ ap (λ v. v.items) w.after-is
            ∙ walk_gave c.args.from c.args.to c.args.units c.loop-row.given rows c.loop-row.after.items _ c.loop-row.row-index
            c.loop-row-test.false w.if-not-given.false c.loop-row.invariant
            ∙ moves
      ];
    }
