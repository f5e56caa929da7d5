-- The script isn't read, or what came of it is the day's.
use Rattle.title_plan.specs.Asked.{asked_in}
use Rattle.title_daybook.specs.Books.{standing_of}
use Rattle.title_lasting.{specs.{Days.{declared_in}, Looks.{IsLookUnread}}, proofs.{LooksServed.{look_on, report_is}, Unmade.{ended_by}}}
use Rattle.title_lasting.proofs.looking.make_look.Goals as goal

pub returns-in_err-plan-clause-why : goal.returns-in_err-plan-clause-why
returns-in_err-plan-clause-why g c =
    let s = standing_of c.args.stands in
    let why = c.in_err-plan.field-0.0 in
    ended_by (IsLookUnread (declared_in s) (g.R.Source.left c.args.source.now) (g.R.Source.has_failed c.read_looks.new.source)) why
    c.from_residual.result c.from_residual.ensures.1 c.in_err-plan.ensures.why

pub returns-clause-made : goal.returns-clause-made
returns-clause-made g c =
    let s = standing_of c.args.stands in
    let left = g.R.Source.left c.args.source.now in
    let recalled = c.replayed_records_are_committed.ensures.law in
    let asked = asked_in c.in_ok-plan.plan in
    let is_asked = c.in_ok-plan.ensures.asked in
    let desk = c.args.desk.value in
    let served = c.in_ok-served.served in
    let is = c.in_ok-served.ensures.served in (
      asked,
      look_on recalled s left asked is_asked desk c.requires.served served is,
      report_is recalled s left asked is_asked desk c.requires.served served is,
    )
