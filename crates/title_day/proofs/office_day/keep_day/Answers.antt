-- The records of the desk are what stood.
use Rattle.std.{proofs.{Common.{◌∙◌, List, ap, map, subst}, lemmas.Result.{IfOk-weaker}}, specs.Prelude.{IfOk}}
use Rattle.title_chain.specs.declared.record.Record.{Record}
use Rattle.title_trace.specs.{Due.{Setting}, Trace.{committed}}
use Rattle.title_turns.specs.Dealt.{told_by}
use Rattle.title_office.specs.Workers.{seat_examiners}
use Rattle.title_day.{specs.{DaysOn.{GoesOnFrom}, OfficeRecords.{AreMadeOf}}, proofs.OfficeCounts.{made_many}}
use Rattle.title_day.proofs.office_day.keep_day.Goals as goal

pub returns-clause-made : goal.returns-clause-made
returns-clause-made g c =
    let dealt = map told_by c.args.scripts.items in
    let records = c.records.result.now in
    subst (λ (s : Setting). IfOk c.run_opened.result (λ day. AreMadeOf s dealt (committed c.args.desk.trace) day.tallies.items day.records))
    c.requires.setting (subst (λ (stood : List Record). IfOk c.run_opened.result
    (λ day. AreMadeOf g.B.Room.setting dealt stood day.tallies.items day.records)) c.records.ensures.records
    (c.run_opened.ensures.made records c.outcomes_of-stood.ensures.outcomes))

pub returns-clause-counted : goal.returns-clause-counted
returns-clause-counted g c =
    IfOk-weaker c.run_opened.result _ _
    (λ day made. made_many c.as_many_outcomes_as_records.ensures.many c.args.desk.setting (map told_by c.args.scripts.items)
    (committed c.args.desk.trace) day.tallies.items day.records made) (returns-clause-made g c)

pub returns-clause-begins : goal.returns-clause-begins
returns-clause-begins g c =
    let records = c.records.result.now in
    subst (λ (s : Setting). IfOk c.run_opened.result (λ day. GoesOnFrom s (committed c.args.desk.trace) day.records)) c.requires.setting
    (subst (λ (stood : List Record). IfOk c.run_opened.result (λ day. GoesOnFrom g.B.Room.setting stood day.records))
    c.records.ensures.records (c.run_opened.ensures.begins records c.outcomes_of-stood.ensures.outcomes))

pub run_opened-requires-clause-fits : goal.run_opened-requires-clause-fits
run_opened-requires-clause-fits g c κs within =
    IfOk-weaker c.open_on-opened.result _ _ (λ o is. ap seat_examiners is ∙ c.requires.fits) c.open_on-opened.ensures.seats
