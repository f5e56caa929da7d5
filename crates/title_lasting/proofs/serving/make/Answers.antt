-- The script isn't read, or isn't served; or what comes of it is the day's.
use Rattle.std.{proofs.{Common.{◌≤◌, ℕ, arith, subst, sym}, lemmas.List.{length-map}}, specs.String.{string_bytes}}
use Rattle.title_chain.specs.Alone.{most_parties}
use Rattle.title_journal.specs.Blocks.{blocks_in}
use Rattle.title_plan.specs.Asked.{asked_in}
use Rattle.title_daybook.specs.Books.{standing_of}
use Rattle.title_lasting.specs.{Days.{declared_in}, Made.{IsUnmade}}
use Rattle.title_lasting.specs.Laws.{CellsSaid.{described_have_cells}, FineBooks.{stands_written}, FineScripts.{script_fine}}
use Rattle.title_lasting.proofs.{DayServed.{is_made, no_fewer, served_many}, Unmade.{ended_by}}
use Rattle.title_lasting.proofs.serving.make.Goals as goal

pub returns-in_err-begun-clause-why : goal.returns-in_err-begun-clause-why
returns-in_err-begun-clause-why g c =
    let s = standing_of c.args.stands in
    let left = g.R.Source.left c.args.source.now in
    let failed = g.R.Source.has_failed c.lay_footing.new.source in
    ended_by (IsUnmade c.args.schedule s left failed) c.in_err-begun.field-0.0 c.from_residual.result c.from_residual.ensures.1
    c.in_err-begun.ensures.why

pub serve-requires : goal.serve-requires
serve-requires g c =
    let s = standing_of c.args.stands in
    let footing = c.in_ok-begun.ensures.footing in
    let plan = c.in_ok-begun.begun.plan in
    let asked = asked_in plan in
    let begins = c.scripts_begin.ensures.begins c.args.schedule (declared_in s) footing.asked.script asked footing.asked.asks in
    record {
      townships = omega (arith, footing.so_much.townships, no_fewer s.townships asked.townships begins.0);
      parties = omega (
        arith,
        footing.so_much.names,
        no_fewer s.names asked.names begins.1,
        length-map plan.parties.keys string_bytes,
      );
      records = served_many c.replayed_records_are_committed.ensures.law asked.townships s.records c.in_ok-begun.begun.desk.value
          c.in_ok-begun.begun.stood.records footing.served footing.so_much.records;
    }

pub returns-clause-made : goal.returns-clause-made
returns-clause-made g c =
    let s = standing_of c.args.stands in
    let footing = c.in_ok-begun.ensures.footing in
    let plan = c.in_ok-begun.begun.plan in
    let asked = footing.asked in
    let begins = c.scripts_begin.ensures.begins c.args.schedule (declared_in s) asked.script (asked_in plan) asked.asks in
    let cells = c.lands_have_cells.ensures.law in
    let written = stands_written cells c.requires.stands.0 s c.requires.stands.1 in
    let few = subst (λ (n : ℕ). n ≤ most_parties) (sym (length-map c.args.stands.parties.keys string_bytes)) c.args.stands.few in
    let fine = script_fine (described_have_cells cells c.descriptions_stay.ensures.law) c.args.schedule (declared_in s) asked.script
    (asked_in plan) written.names written.texts few asked.asks in
    is_made c.replayed_records_are_committed.ensures.law c.idle_have_no_steps.ensures.none c.kept_records_are_serial.ensures.law
    c.added_reads_back.ensures.law c.kept_are_written.ensures.law c.args.schedule s _ (asked_in plan) asked begins
    (blocks_in c.requires.stands.0) c.requires.stands.1 written fine plan.once plan.few_townships c.in_ok-begun.begun.desk.value
    footing.served c.in_ok-begun.begun.stood footing.so_much c.in_ok-made.made c.in_ok-made.ensures.served c.in_ok-made.ensures.few
