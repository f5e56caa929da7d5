-- The quarters come in their order; none of a square that doesn't refuse.
use Rattle.std.proofs.Common.{◌∙◌, List, Some, length, ap, sym, arith}
use Rattle.title_land.specs.declared.rectangle.Quarter.{Quarter}
use Rattle.title_tree_store.{specs.Refusing.{first_for, refused_at}, proofs.Firsts.{square_cells, quarter_here, quarter_later}}
use Rattle.title_tree_store.proofs.Standing.{alike_square, has_levels, stands_down}
use Rattle.title_tree_store.proofs.refusals.Search.+first_in_square.Goals as goal

pub returns-in_err-rule : goal.returns-in_err-rule
returns-in_err-rule t c = record {
  first = c.from_residual.ensures ∙ alike_square c.args.self.now c.args.section c.args.below c.args.within c.args.trees.now
      c.requires.below c.requires.here (sym c.are_alike.ensures.alike ∙ c.if-are_alike.true) c.in_err-rule.ensures.why;
}

pub returns-then-are_alike : goal.returns-then-are_alike
returns-then-are_alike t c = record {
  first = ap (refused_at (Some (c.in_ok-rule.rule, c.in_ok-rule.estate))) c.first_cell.ensures.first
      ∙ alike_square c.args.self.now c.args.section c.args.below c.args.within c.args.trees.now
      c.requires.below c.requires.here (sym c.are_alike.ensures.alike ∙ c.if-are_alike.true) c.in_ok-rule.ensures.why;
}

pub loop-which-init : goal.loop-which-init
loop-which-init t c =
    let more = has_levels c.args.below _ (sym c.are_alike.ensures.alike ∙ c.if-are_alike.false) in
    (more, ap (first_for c.args.self.now) (square_cells c.args.section c.args.below c.args.within more))

pub first_in_square-found-requires : goal.first_in_square-found-requires
first_in_square-found-requires t c =
    let long = ap (λ (w : List Quarter). length w) c.quarter-in-loop-which.ensures.quarter in (
      omega (arith, c.decreases, c.loop-which.invariant.0),
      (
        omega (arith, c.requires.below, c.loop-which.invariant.0, long),
        stands_down c.args.self.now c.args.section c.args.within c.quarter-in-loop-which.result _ c.args.trees.now c.quarter.result
            c.requires.here c.quarter-in-loop-which.ensures.quarter c.quarter.ensures.quarters,
      ),
    )

pub returns-then-is_some : goal.returns-then-is_some
returns-then-is_some t c = record {
  first = quarter_here c.args.self.now c.args.section c.args.below c.args.within c.quarter-in-loop-which.result c.loop-which.which-index
      c.loop-which-test.true c.quarter-in-loop-which.ensures.quarter c.first_in_square-found.result c.first_in_square-found.ensures.first
      (sym c.is_some.ensures ∙ c.if-is_some.true) ∙ sym c.loop-which.invariant.1;
}

pub loop-which-preserved : goal.loop-which-preserved
loop-which-preserved t c = (
  c.loop-which.invariant.0,
  c.loop-which.invariant.1
      ∙ quarter_later c.args.self.now c.args.section c.args.below c.args.within c.quarter-in-loop-which.result c.loop-which.which-index
      c.loop-which-test.true c.quarter-in-loop-which.ensures.quarter c.first_in_square-found.result c.first_in_square-found.ensures.first
      (sym c.is_some.ensures ∙ c.if-is_some.false),
)
