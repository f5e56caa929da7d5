-- The rows after are those of the division after the move.
use Rattle.std.proofs.{Common.{◌∙◌, sym, ap}, lemmas.Bool.{eq-eqb, or_left, or_right}}
use Rattle.title_share.specs.{Division.{units_of}, Laws.DivisionLaws.{viewed_rows, moved_none, moved_is, units-moved}}
use Rattle.title_share.proofs.holding.Holding.move_units.Goals.{then-units-eq0-via-then-units-eq0}
use Rattle.title_share.proofs.holding.Holding.move_units.Goals.{then-units-eq0-via-else-units-eq0+then-from-to}
use Rattle.title_share.proofs.holding.Holding.move_units.Goals as goal

pub returns-then-units-eq0-clause-moved : goal.returns-then-units-eq0-clause-moved
returns-then-units-eq0-clause-moved c =
    sym (moved_none c.args.from c.args.to c.args.units c.args.self.now
    (elim c.then-units-eq0.branch [
      | then-units-eq0-via-then-units-eq0 w ↦ or_left _ _ (eq-eqb _ _ w.if-units-eq0.true)
      | then-units-eq0-via-else-units-eq0+then-from-to w ↦ or_right _ _ (eq-eqb _ _ w.if-from-to.true)
    ]))

pub rows_after-requires-clause-held : goal.rows_after-requires-clause-held
rows_after-requires-clause-held c =
    let start = viewed_rows _ _ c.self.invariant c.self.view_is in
    rw (c.deref.ensures, ← start) c.requires.held

pub invariant_of-self : goal.invariant_of-self
invariant_of-self c =
    (moved_is c.args.from c.args.to c.args.units c.args.self.now c.deref.result.now _ c.requires.held
    (viewed_rows _ _ c.self.invariant c.self.view_is ∙ sym c.deref.ensures) c.in_ok-self-inside.ensures.rows).1

pub returns-clause-moved : goal.returns-clause-moved
returns-clause-moved c =
    (moved_is c.args.from c.args.to c.args.units c.args.self.now c.deref.result.now _ c.requires.held
    (viewed_rows _ _ c.self.invariant c.self.view_is ∙ sym c.deref.ensures) c.in_ok-self-inside.ensures.rows).0

pub returns-clause-units : goal.returns-clause-units
returns-clause-units c q = ap (units_of q) (returns-clause-moved c)
    ∙ units-moved q c.args.from c.args.to c.args.units c.args.self.now c.requires.held
