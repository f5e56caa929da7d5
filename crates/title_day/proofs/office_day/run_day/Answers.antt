-- A desk that has just been opened has committed nothing.
use Rattle.std.proofs.{Common.{ap, arith, length, map, reverse, subst}, lemmas.Result.{IfOk-weaker}}
use Rattle.std.specs.Prelude.{List}
use Rattle.title_land.specs.Depth.{depth}
use Rattle.title_chain.specs.Alone.{IsSerial}
use Rattle.title_trace.specs.{declared.call.Call.{Call}, Due.{Setting}, Trace.{committed}}
use Rattle.title_turns.specs.Dealt.{told_by}
use Rattle.title_day.specs.OfficeRecords.{AreMadeOf}
use Rattle.title_day.proofs.office_day.run_day.Goals as goal

pub returns-clause-made : goal.returns-clause-made
returns-clause-made g c =
    let dealt = map told_by c.args.scripts.items in
    let desk = c.in_ok-desk.desk in
    IfOk-weaker c.run_day_on.result _ _
    (λ day made. subst (λ (calls : List Call). AreMadeOf (record { parties = c.args.parties; townships = c.args.townships.now }) dealt
    (committed calls) day.tallies.items day.records) c.in_ok-desk.ensures.trace
    (subst (λ (s : Setting). AreMadeOf s dealt (committed desk.trace) day.tallies.items day.records) c.in_ok-desk.ensures.setting made))
    c.run_day_on.ensures.made

pub returns-clause-counted : goal.returns-clause-counted
returns-clause-counted g c =
    let none = ap (λ (calls : List Call). length (committed calls)) c.in_ok-desk.ensures.trace in
    IfOk-weaker c.run_day_on.result _ _ (λ day counted. omega (arith, counted, none)) c.run_day_on.ensures.counted

pub returns-clause-serial : goal.returns-clause-serial
returns-clause-serial g c =
    IfOk-weaker c.run_day_on.result _ _
    (λ day on. subst (λ (s : Setting). IsSerial depth s.townships (reverse day.records)) c.in_ok-desk.ensures.setting on.serial)
    c.run_day_on.ensures.begins
