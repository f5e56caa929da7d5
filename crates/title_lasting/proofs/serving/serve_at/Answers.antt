-- The desk has what it had, and what the plan has committed stands behind it.
use Rattle.std.proofs.Common.{List, subst}
use Rattle.title_land.specs.declared.survey.Township.{Township}
use Rattle.title_plan.specs.Asked.{asked_in}
use Rattle.title_lasting.specs.{Kept.{text_in}, Made.{IsAddedBlock}}
use Rattle.title_lasting.proofs.DayServed.{declared_alike, is_served_at, no_fewer_records}
use Rattle.title_lasting.proofs.serving.serve_at.Goals as goal

pub added_block-requires-clause-records : goal.added_block-requires-clause-records
added_block-requires-clause-records g c =
    let desk = c.args.desk.now in
    no_fewer_records desk.setting desk.trace c.serve_onto.new.desk.trace c.args.plan.lines.items c.headline.result.1.now
    c.args.stood.records c.headline.ensures.headline.records_are_committed c.in_ok-served.ensures.trace c.requires.records

pub returns-clause-served : goal.returns-clause-served
returns-clause-served g c =
    let told = c.in_ok-served.served.plan in
    let records = c.headline.result.1.now in
    let same = declared_alike told c.args.plan c.in_ok-served.ensures.declared in
    let block = subst (λ (ts : List Township). IsAddedBlock c.args.stood ts (asked_in told).names records (text_in c.in_ok-block.block))
    c.deref.ensures.value c.in_ok-block.ensures.block in
    is_served_at c.args.desk.now c.serve_onto.new.desk c.args.stood (asked_in c.args.plan) (asked_in told) _ records _
    c.serve_onto.ensures.setting c.in_ok-served.ensures.trace c.in_ok-served.ensures.report same.0 same.1
    c.headline.ensures.headline block
