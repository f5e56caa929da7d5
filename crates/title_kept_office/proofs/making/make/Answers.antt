-- The script isn't read, or isn't run; or what came of it is the day's.
use Rattle.std.{proofs.{Common.{◌∙◌, ◌≤◌, ℕ, ap, arith, length, subst, sym}, lemmas.List.{length-map}}, specs.String.{string_bytes}}
use Rattle.title_chain.specs.Alone.{most_parties}
use Rattle.title_trace.specs.Due.{Setting}
use Rattle.title_plan.specs.Asked.{asked_in}
use Rattle.title_plan.specs.declared.line.Schedule.TheVariants as schedule
use Rattle.title_daybook.specs.Books.{standing_of}
use Rattle.title_lasting.specs.Days.{declared_in}
use Rattle.title_kept_office.{specs.OfficeDays.{IsOfficeUnmade}, proofs.Ended.{ended_by}}
use Rattle.title_kept_office.proofs.DaysMade.{no_fewer, no_footing, office_made, own_unmade, served_records}
use Rattle.title_kept_office.proofs.making.make.Goals as goal

pub returns-in_err-begun-clause-why : goal.returns-in_err-begun-clause-why
returns-in_err-begun-clause-why g c =
    let s = standing_of c.args.stands in
    let left = g.R.Source.left c.args.source.now in
    let failed = g.R.Source.has_failed c.lay_footing.new.source in
    ended_by (IsOfficeUnmade c.args.examiners s left failed) _ c.from_residual.result c.from_residual.ensures.1
    (no_footing c.args.examiners s left failed c.in_err-begun.field-0.0 c.in_err-begun.ensures.why)

pub run_on-requires-clause-asked : goal.run_on-requires-clause-asked
run_on-requires-clause-asked g c κs within =
    let footing = c.in_ok-begun.ensures.footing in
    (c.offices_keep_turns_onto.ensures.law c.args.examiners (declared_in (standing_of c.args.stands)) footing.asked.script
    (asked_in c.in_ok-begun.begun.plan) footing.asked.asks).examiners

pub run_on-requires-clause-once : goal.run_on-requires-clause-once
run_on-requires-clause-once g c κs within = c.in_ok-begun.ensures.footing.opens.3

pub run_on-requires-clause-plant : goal.run_on-requires-clause-plant
run_on-requires-clause-plant g c κs within = ap (λ (x : Setting). x.townships) c.in_ok-begun.ensures.footing.served.setting

pub run_on-requires-clause-townships : goal.run_on-requires-clause-townships
run_on-requires-clause-townships g c κs within =
    let s = standing_of c.args.stands in
    let footing = c.in_ok-begun.ensures.footing in
    let asked = asked_in c.in_ok-begun.begun.plan in
    let begins = c.scripts_begin.ensures.begins (schedule.Office c.args.examiners) (declared_in s) footing.asked.script asked
    footing.asked.asks in
    omega (arith, footing.so_much.townships, no_fewer s.townships asked.townships begins.0)

pub run_on-requires-clause-parties : goal.run_on-requires-clause-parties
run_on-requires-clause-parties g c κs within =
    let s = standing_of c.args.stands in
    let footing = c.in_ok-begun.ensures.footing in
    let plan = c.in_ok-begun.begun.plan in
    let asked = asked_in plan in
    let begins = c.scripts_begin.ensures.begins (schedule.Office c.args.examiners) (declared_in s) footing.asked.script asked
    footing.asked.asks in
    omega (arith, footing.so_much.names, no_fewer s.names asked.names begins.1, length-map plan.parties.keys string_bytes)

pub run_on-requires-clause-records : goal.run_on-requires-clause-records
run_on-requires-clause-records g c κs within =
    let s = standing_of c.args.stands in
    let footing = c.in_ok-begun.ensures.footing in
    ap length (served_records c.replayed_records_are_committed.ensures.law (asked_in c.in_ok-begun.begun.plan).townships s.records
    c.in_ok-begun.begun.desk.value footing.served) ∙ sym footing.so_much.records

pub returns-in_err-made-clause-why : goal.returns-in_err-made-clause-why
returns-in_err-made-clause-why g c =
    let s = standing_of c.args.stands in
    let left = g.R.Source.left c.args.source.now in
    let failed = g.R.Source.has_failed c.lay_footing.new.source in
    let footing = c.in_ok-begun.ensures.footing in
    let plan = c.in_ok-begun.begun.plan in
    let parties = length-map c.args.stands.parties.keys string_bytes in
    let few = subst (λ (n : ℕ). n ≤ most_parties) (sym parties) c.args.stands.few in
    ended_by (IsOfficeUnmade c.args.examiners s left failed) _ c.from_residual-in_err-made.result c.from_residual-in_err-made.ensures.1
    (own_unmade c.replayed_records_are_committed.ensures.law c.kept_records_are_serial.ensures.law c.args.examiners s left (asked_in plan)
    footing.asked c.requires.stands.0 c.requires.stands.1 plan.once plan.few_townships few c.in_ok-begun.begun.desk.value footing.served
    c.in_err-made.field-0.0 failed c.in_err-made.ensures.why)

pub returns-clause-made : goal.returns-clause-made
returns-clause-made g c =
    let s = standing_of c.args.stands in
    let left = g.R.Source.left c.args.source.now in
    let footing = c.in_ok-begun.ensures.footing in
    let plan = c.in_ok-begun.begun.plan in
    let parties = length-map c.args.stands.parties.keys string_bytes in
    let few = subst (λ (n : ℕ). n ≤ most_parties) (sym parties) c.args.stands.few in
    office_made c.replayed_records_are_committed.ensures.law c.kept_records_are_serial.ensures.law c.args.examiners s left (asked_in plan)
    footing.asked c.requires.stands.0 c.requires.stands.1 plan.once plan.few_townships few c.in_ok-begun.begun.desk.value footing.served
    c.lands_have_cells.ensures.law c.descriptions_stay.ensures.law c.added_reads_back.ensures.law c.kept_are_written.ensures.law
    (c.scripts_begin.ensures.begins (schedule.Office c.args.examiners) (declared_in s) footing.asked.script (asked_in plan)
    footing.asked.asks) c.in_ok-begun.begun.stood footing.so_much c.in_ok-made.made c.in_ok-made.ensures.run
