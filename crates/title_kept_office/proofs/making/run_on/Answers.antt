-- The script is dealt and run, its block is put together, and its report is told.
use Rattle.std.proofs.Common.{◌≡◌, ◌∙◌, ◌+◌, ◌^◌, ◌<◌, ◌≤◌, ℕ, List, ap, arith, length, map, reverse, subst, sum, sym}
use Rattle.std.{proofs.lemmas.List.{length-map}, specs.String.{string_bytes}}
use Rattle.title_land.specs.{Depth.{depth}, declared.survey.Township.{Township}}
use Rattle.title_chain.specs.{Alone.{IsSerial}, declared.record.Record.{Record}}
use Rattle.title_store.specs.Plants.{IsEachOnce}
use Rattle.title_trace.specs.Trace.{committed}
use Rattle.title_desk.specs.Told.{Books}
use Rattle.title_plan.specs.Asked.{asked_in}
use Rattle.title_turns.specs.Dealt.{Dealt, told_by}
use Rattle.title_day.specs.{DaysOn.{GoesOnFrom, closing_text_on}, OfficeRecords.{AreMadeOf}}
use Rattle.title_lasting.specs.{Kept.{text_in}, Made.{IsAddedBlock}}
use Rattle.title_kept_office.{specs.OfficeDays.{IsOwnTrouble}, proofs.Ended.{ended_by, office_trouble}}
use Rattle.title_kept_office.proofs.making.run_on.Goals as goal

pub returns-in_err-script-clause-why : goal.returns-in_err-script-clause-why
returns-in_err-script-clause-why g c = ended_by IsOwnTrouble _ c.from_residual.result c.from_residual.ensures.1 tt

pub run_day_on-requires-clause-townships : goal.run_day_on-requires-clause-townships
run_day_on-requires-clause-townships g c κs within =
    c.as_slice-listed.ensures.value ∙ c.in_ok-script.ensures.script.townships
    ∙ sym (ap (λ (d : Books). d.setting.townships) c.into_inner.ensures ∙ c.requires.plant)

pub run_day_on-requires-clause-once : goal.run_day_on-requires-clause-once
run_day_on-requires-clause-once g c κs within =
    subst IsEachOnce (sym (c.as_slice-listed.ensures.value ∙ c.in_ok-script.ensures.script.townships)) c.requires.once

pub run_day_on-requires-clause-fits : goal.run_day_on-requires-clause-fits
run_day_on-requires-clause-fits g c κs within =
    let script = c.in_ok-script.ensures.script in
    c.dealt_scripts_fit.ensures.seats 1 c.args.examiners (asked_in c.args.plan).lines c.in_ok-script.script.scripts.items script.many
    script.dealt

pub returns-in_err-day-clause-why : goal.returns-in_err-day-clause-why
returns-in_err-day-clause-why g c =
    ended_by IsOwnTrouble _ c.from_residual-in_err-day.result c.from_residual-in_err-day.ensures.1
    (office_trouble c.in_err-day.field-0.0 c.in_err-day.ensures.why)

pub added_block-requires : goal.added_block-requires
added_block-requires g c =
    let script = c.in_ok-script.ensures.script in
    let listed = c.as_slice-listed.ensures.value ∙ script.townships in
    let names : length c.in_ok-script.script.parties.keys ≡ length c.args.plan.parties.keys =
    omega (
      arith,
      ap length script.names,
      length-map c.in_ok-script.script.parties.keys string_bytes,
      length-map c.args.plan.parties.keys string_bytes,
    ) in
    record {
      townships = subst (λ (ts : List Township). c.args.stood.townships ≤ length ts) (sym listed) c.requires.townships;
      parties = omega (arith, c.requires.parties, names);
      records = omega (
        arith,
        c.requires.records,
        c.in_ok-day.ensures.counted,
        ap (λ (d : Books). length (committed d.trace)) c.into_inner.ensures,
        ap length c.as_slice.ensures.slice,
      );
    }

pub returns-in_err-block-clause-why : goal.returns-in_err-block-clause-why
returns-in_err-block-clause-why g c =
    ended_by IsOwnTrouble _ c.from_residual-in_err-block.result c.from_residual-in_err-block.ensures.1 tt

pub close_office-requires : goal.close_office-requires
close_office-requires g c =
    let listed = c.as_slice-listed.ensures.value ∙ c.in_ok-script.ensures.script.townships in
    record {
      once = subst IsEachOnce (sym listed) c.requires.once;
      serial = subst (λ (ts : List Township). IsSerial depth ts (reverse c.in_ok-day.day.records))
          (ap (λ (d : Books). d.setting.townships) c.into_inner.ensures ∙ c.requires.plant ∙ sym listed)
          c.in_ok-day.ensures.begins.serial;
    }

pub returns-in_err-closing-clause-why : goal.returns-in_err-closing-clause-why
returns-in_err-closing-clause-why g c =
    ended_by IsOwnTrouble _ c.from_residual-in_err-closing.result c.from_residual-in_err-closing.ensures.1 tt

pub returns-clause-run : goal.returns-clause-run
returns-clause-run g c =
    let script = c.in_ok-script.ensures.script in
    let asked = asked_in c.args.plan in
    let listed = c.as_slice-listed.ensures.value ∙ script.townships in
    let scripts = c.in_ok-script.script.scripts.items in
    let desk = c.args.desk.value in
    let tallies = c.in_ok-day.day.tallies.items in
    let records = c.in_ok-day.day.records in
    let told = c.dealt_scripts_fit.ensures.tallies asked.lines scripts tallies script.dealt c.in_ok-day.ensures.told in
    record {
      tallies = tallies;
      records = records;
      goes_on = subst (λ (d : Books). GoesOnFrom d.setting (committed d.trace) records) c.into_inner.ensures
          c.in_ok-day.ensures.begins;
      many = told.1 ∙ script.many;
      tallies_are = told.0;
      counted = subst (λ (d : Books). sum (map (λ t. t.committed) tallies) + length (committed d.trace) ≡ length records)
          c.into_inner.ensures c.in_ok-day.ensures.counted;
      is_made = subst (λ (dealt : List (ℕ × List Dealt)). AreMadeOf desk.setting dealt (committed desk.trace) tallies records)
          (c.dealt_scripts_fit.ensures.asked asked.lines c.args.examiners scripts script.many script.dealt)
          (subst (λ (d : Books). AreMadeOf d.setting (map told_by scripts) (committed d.trace) tallies records) c.into_inner.ensures
          c.in_ok-day.ensures.made);
      report = c.in_ok-closing.ensures.text
          ∙ ap (λ (ts : List Township). closing_text_on ts (map string_bytes c.in_ok-script.script.parties.keys)
          c.in_ok-script.script.steps tallies c.args.stood.records records) listed
          ∙ ap (λ (ns : List (List ℕ)). closing_text_on asked.townships ns c.in_ok-script.script.steps tallies c.args.stood.records records)
          script.names
          ∙ ap (λ (n : ℕ). closing_text_on asked.townships asked.names n tallies c.args.stood.records records) script.steps;
      block = subst (λ (ts : List Township). IsAddedBlock c.args.stood ts asked.names records (text_in c.in_ok-block.block)) listed
          (subst (λ (ns : List (List ℕ)). IsAddedBlock c.args.stood c.as_slice-listed.result.now ns records (text_in c.in_ok-block.block))
          script.names
          (subst (λ (rs : List Record). IsAddedBlock c.args.stood c.as_slice-listed.result.now
          (map string_bytes c.in_ok-script.script.parties.keys) rs (text_in c.in_ok-block.block)) c.as_slice.ensures.slice
          c.in_ok-block.ensures.block));
      few = subst (λ (rs : List Record). length rs < 2 ^ 64) c.as_slice.ensures.slice (omega arith);
    }
