-- The rows after are those of the division after the move.
use Rattle.std.proofs.{Common.{◌≡◌, ◌∙◌, sym, subst, IfOk}, lemmas.Bool.{eq-eqb, or_left, or_right}}
use Rattle.title_share.specs.{Division.{Division}, Laws.DivisionLaws.{viewed_rows, moved_none, moved_is}}
use Rattle.title_share.proofs.holding.Holding.moved.Goals.{then-units-eq0-via-then-units-eq0}
use Rattle.title_share.proofs.holding.Holding.moved.Goals.{then-units-eq0-via-else-units-eq0+then-from-to}
use Rattle.title_share.proofs.holding.Holding.moved.Goals as goal

pub returns-then-units-eq0 : goal.returns-then-units-eq0
returns-then-units-eq0 c =
    let same = sym (moved_none c.args.from c.args.to c.args.units c.args.self.now
    (elim c.then-units-eq0.branch [
      | then-units-eq0-via-then-units-eq0 w ↦ or_left _ _ (eq-eqb _ _ w.if-units-eq0.true)
      | then-units-eq0-via-else-units-eq0+then-from-to w ↦ or_right _ _ (eq-eqb _ _ w.if-from-to.true)
    ])) in
    record { moved = subst (λ (d : Division). IfOk c.copy.result (λ h. h ≡ d)) same c.copy.ensures.copy }

pub rows_after-requires-clause-held : goal.rows_after-requires-clause-held
rows_after-requires-clause-held c =
    let start = viewed_rows _ _ c.self.invariant c.self.view_is in
    rw (c.deref.ensures, ← start) c.requires.held

pub invariant_of-result : goal.invariant_of-result
invariant_of-result c =
    (moved_is c.args.from c.args.to c.args.units c.args.self.now c.deref.result.now _ c.requires.held
    (viewed_rows _ _ c.self.invariant c.self.view_is ∙ sym c.deref.ensures) c.in_ok-rows.ensures.rows).1

pub returns : goal.returns
returns c = record {
  moved = (moved_is c.args.from c.args.to c.args.units c.args.self.now c.deref.result.now _ c.requires.held
      (viewed_rows _ _ c.self.invariant c.self.view_is ∙ sym c.deref.ensures) c.in_ok-rows.ensures.rows).0;
}
