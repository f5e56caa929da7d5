-- Where a record can't be published there was no want of a place; and viewers are of what is published.
use Rattle.std.{proofs.Common.{◌≡◌, List, subst, replicate}, specs.Prelude.{IfOk}}
use Rattle.title_chain.specs.declared.record.Record.{Record}
use Rattle.title_office.{specs.Offices.{sight_on}, proofs.Faults.{no_want_of_place}}
use Rattle.title_office.proofs.opening_on.fill.Goals as goal

pub returns-in_err-publish_all-clause-why : goal.returns-in_err-publish_all-clause-why
returns-in_err-publish_all-clause-why g c =
    no_want_of_place c.args.viewers c.from_residual.result c.from_residual.ensures.1

pub returns-clause-viewers : goal.returns-clause-viewers
returns-clause-viewers g c =
    subst (λ (records : List Record). IfOk c.viewers_on.result (λ all. all.items ≡ replicate c.args.viewers
    (sight_on c.args.number records)))
    c.in_ok-publish_all.ensures.all c.viewers_on.ensures.viewers
