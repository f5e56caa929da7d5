-- Where the fronts had no memory there was no want of a place.
use Rattle.title_office.proofs.Faults.{no_want_of_place}
use Rattle.title_office.proofs.opening_on.watched_on.Goals as goal

pub returns-in_err-fronts-clause-why : goal.returns-in_err-fronts-clause-why
returns-in_err-fronts-clause-why g c =
    no_want_of_place c.args.viewers c.from_residual.result c.from_residual.ensures.1
