-- One row with all units is the whole.
use Rattle.std.proofs.Common.{ap, ◌∙◌, sym}
use Rattle.title_share.specs.{Laws.DivisionLaws.{division_is, rows-all_to, units-all_to}, Division.{units_of}}
use Rattle.title_share.proofs.holding.Holding.whole.Goals as goal

pub returns-clause-whole : goal.returns-clause-whole
returns-clause-whole c = division_is _ _ (c.push_reserved.ensures.items ∙ rw c.new-rows.ensures.items (sym (rows-all_to c.args.party)))

pub returns-clause-units : goal.returns-clause-units
returns-clause-units c q = ap (units_of q) (returns-clause-whole c) ∙ units-all_to q c.args.party
