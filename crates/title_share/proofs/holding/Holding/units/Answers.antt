-- The rows' units are the division's.
use Rattle.std.proofs.Common.{◌∙◌, sym, ap, ◌≡◌}
use Rattle.title_share.specs.{Rows.{units_in}, Division.{units_of}, Laws.DivisionLaws.{viewed_rows, units_bound}}
use Rattle.title_share.proofs.holding.Holding.units.Goals as goal

pub returns-clause-units : goal.returns-clause-units
returns-clause-units c =
    c.units_among.ensures.units ∙ ap (units_in c.args.party) (c.deref.ensures ∙ sym (viewed_rows _ _ c.self.invariant c.self.view_is))

pub returns-clause-bound : goal.returns-clause-bound
returns-clause-bound c =
    let is : c.units_among.result ≡ units_of c.args.party c.args.self.now =
    c.units_among.ensures.units ∙ ap (units_in c.args.party) (c.deref.ensures ∙ sym (viewed_rows _ _ c.self.invariant c.self.view_is))
    in
    rw is (units_bound c.args.party c.args.self.now)
