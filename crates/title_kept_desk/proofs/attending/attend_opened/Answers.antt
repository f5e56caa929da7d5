-- The counter before the first row has what stood, and the mark says how much that is.
use Rattle.std.{proofs.{Common.{◌≡◌, ◌∙◌, ◌==◌, ℕ, ap, length, not, subst, sym}, lemmas.List.{length-map}}, specs.String.{string_bytes}}
use Rattle.title_desk.specs.Told.{Books}
use Rattle.title_trace.specs.Trace.{committed}
use Rattle.title_standing.specs.Standing.{kept, replayed}
use Rattle.title_daybook.specs.{Books.{standing_of}, Files.{IsPlant}}
use Rattle.title_counter.specs.Counters.{Counter}
use Rattle.title_lasting.specs.Laws.KeptNews.{many_deeds}
use Rattle.title_kept_desk.specs.{declared.mark.Mark.{Mark}, Sittings.{IsUpTo}}
use Rattle.title_kept_desk.proofs.DeskEnds.{onto_opening, opening_has, unasked}
use Rattle.title_kept_desk.proofs.attending.attend_opened.Goals as goal

pub onto-clerk-requires : goal.onto-clerk-requires
onto-clerk-requires g c =
    let stands = c.args.opened.stands in
    let s = standing_of stands in
    let many : c.len-records.result ≡ length s.records =
    c.len-records.ensures ∙ stands.deeds.ok.0 ∙ sym (many_deeds stands.deeds.items) in
    let trace = ap (λ (d : Books). d.trace) c.into_inner.ensures ∙ c.requires.served.trace in
    record {
      setting = ap (λ (d : Books). d.setting) c.into_inner.ensures ∙ c.requires.served.setting;
      unasked = unasked s c.any_stand-shut.result c.into_inner.result.trace
          (c.any_stand-shut.ensures.any ∙ ap (λ (n : ℕ). not (n == 0)) many) trace;
    }

pub attend_rows-requires : goal.attend_rows-requires
attend_rows-requires g c =
    let cells = c.lands_have_cells.ensures.law in
    let recalled = c.replayed_records_are_committed.ensures.law in
    let stands = c.args.opened.stands in
    let s = standing_of stands in
    let file = g.D.Disk.seen c.args.disk.now in
    let plant : IsPlant file s = (c.requires.stands, c.requires.served.serial) in
    let many : c.len-records.result ≡ length s.records =
    c.len-records.ensures ∙ stands.deeds.ok.0 ∙ sym (many_deeds stands.deeds.items) in
    let trace = ap (λ (d : Books). d.trace) c.into_inner.ensures ∙ c.requires.served.trace in
    let is = c.onto-clerk.ensures.onto
    ∙ onto_opening s c.any_stand-shut.result c.into_inner.result.trace
    (c.any_stand-shut.ensures.any ∙ ap (λ (n : ℕ). not (n == 0)) many) trace in
    let mark : Mark =
    record {
      gate = c.args.opened.gate;
      stood = record { townships = c.len.result; parties = c.len-2.result; records = c.len-records.result };
    } in
    record {
      up_to = subst
          (λ (counter : Counter). IsUpTo g.D.Disk.seen g.D.Disk.may_leave g.D.Disk.has_failed c.args.disk.now mark counter) (sym is)
          (record {
            rest = c.requires.rest;
            stands = opening_has cells recalled file s plant;
            so_much = record {
              townships = c.len.ensures ∙ stands.townships.ok.0;
              names = c.len-2.ensures.len ∙ sym (length-map stands.parties.keys string_bytes);
              records = many ∙ ap length (sym (recalled s.records).0) ∙ sym (length-map (committed (replayed s.records)) kept);
            };
          });
      opening = (s, plant, is);
      source_works = c.requires.source_works;
      sink_works = c.requires.sink_works;
    }
