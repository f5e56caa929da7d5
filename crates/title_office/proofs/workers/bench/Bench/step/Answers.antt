-- A step that is answered or passed over has been asked.
use Rattle.std.proofs.Common.{OnOk, subst}
use Rattle.title_chain.specs.declared.ask.Ask.{Ask}
use Rattle.title_office.{specs.Turns.{HasAsked}, proofs.Served.{asked_where, goes_on}}
use Rattle.title_office.proofs.workers.bench.Bench.step.Goals as goal

pub returns-clause-seat : goal.returns-clause-seat
returns-clause-seat g c =
    goes_on g.B.Room.setting c.args.slip.now c.in-Ok.copy c.ask-answered.new.slip c.ask-answered.result c.ask-answered.ensures.answered

pub returns-clause-asked : goal.returns-clause-asked
returns-clause-asked g c =
    let same = c.in-Ok.ensures.copy in
    subst (λ (a : Ask). OnOk c.passed_over.result (HasAsked g.B.Room.setting c.args.slip.now a c.ask-answered.new.slip)) same
    (asked_where g.B.Room.setting c.args.slip.now c.in-Ok.copy c.ask-answered.new.slip c.ask-answered.result c.passed_over.result
    c.ask-answered.ensures.answered c.passed_over.ensures.over)
