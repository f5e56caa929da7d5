-- What stood was served, and its script is read on top of it.
use Rattle.std.{proofs.{Common.{◌∙◌, List, length, subst, sym, take}, lemmas.List.{length-map}}, specs.String.{string_bytes}}
use Rattle.title_land.specs.declared.survey.Township.{Township}
use Rattle.title_chain.specs.Alone.{most_parties}
use Rattle.title_trace.specs.Due.{MayOpen}
use Rattle.title_plan.specs.Asked.{asked_in}
use Rattle.title_daybook.specs.Books.{standing_of}
use Rattle.title_lasting.specs.{Days.{declared_in}, Made.{IsUnjoined, IsUnmade}, Replays.{HasServed}}
use Rattle.title_lasting.specs.Laws.KeptNews.{many_deeds}
use Rattle.title_lasting.proofs.{FileOpened.{standing_short}, DayServed.{front_stands, may_open_widest}}
use Rattle.title_lasting.proofs.Unmade.{ended_by, unjoined_unmade, unread_unmade}
use Rattle.title_lasting.proofs.footing.lay_footing.Goals as goal

pub join-requires : goal.join-requires
join-requires g c =
    let s = standing_of c.args.stands in
    let plan = c.in_ok-plan.plan in
    let asked = c.in_ok-plan.ensures.asked in
    let begins = c.scripts_begin.ensures.begins c.args.schedule (declared_in s) asked.script (asked_in plan) asked.asks in
    let townships = sym c.deref.ensures.value in
    let stood = front_stands c.len.result s.townships plan.townships.items (c.len.ensures ∙ c.args.stands.townships.ok.0) begins.0 in
    record {
      served = subst (λ (ts : List Township). HasServed (take c.len.result ts) s.records c.args.desk.value) townships
          (subst (λ (ts : List Township). HasServed ts s.records c.args.desk.value) (sym stood) c.requires.served);
      opens = subst (λ (ts : List Township). MayOpen most_parties ts) townships
          (may_open_widest (length plan.parties.keys) plan.townships.items c.in_ok-plan.ensures.opens);
      short = standing_short c.lands_have_cells.ensures.law c.requires.stands.0 s c.requires.stands.1;
    }

pub returns-clause-footing : goal.returns-clause-footing
returns-clause-footing g c =
    let s = standing_of c.args.stands in
    record {
      asked = c.in_ok-plan.ensures.asked;
      opens = c.in_ok-plan.ensures.opens;
      served = subst (λ (ts : List Township). HasServed ts s.records c.in_ok-desk.desk.value) c.deref.ensures.value
          c.in_ok-desk.ensures.served;
      so_much = record {
        townships = c.len.ensures ∙ c.args.stands.townships.ok.0;
        names = c.len-2.ensures.len ∙ sym (length-map c.args.stands.parties.keys string_bytes);
        records = c.len-3.ensures ∙ c.args.stands.deeds.ok.0 ∙ sym (many_deeds c.args.stands.deeds.items);
      };
    }

pub returns-in_err-plan-clause-why : goal.returns-in_err-plan-clause-why
returns-in_err-plan-clause-why g c =
    let s = standing_of c.args.stands in
    let left = g.R.Source.left c.args.source.now in
    let failed = g.R.Source.has_failed c.read_plan.new.source in
    let why = c.in_err-plan.field-0.0 in
    ended_by (IsUnmade c.args.schedule s left failed) why c.from_residual.result c.from_residual.ensures.1
    (unread_unmade c.args.schedule s left failed why c.in_err-plan.ensures.why)

pub returns-in_err-desk-clause-why : goal.returns-in_err-desk-clause-why
returns-in_err-desk-clause-why g c =
    let s = standing_of c.args.stands in
    let plan = c.in_ok-plan.plan in
    let left = g.R.Source.left c.args.source.now in
    let failed = g.R.Source.has_failed c.read_plan.new.source in
    let why = c.in_err-desk.field-0.0 in
    let unjoined = subst (λ (ts : List Township). IsUnjoined ts s.records why) c.deref.ensures.value c.in_err-desk.ensures.why in
    ended_by (IsUnmade c.args.schedule s left failed) why c.from_residual-in_err-desk.result c.from_residual-in_err-desk.ensures.1
    (unjoined_unmade c.args.schedule s left failed (asked_in plan) c.in_ok-plan.ensures.asked why unjoined)
