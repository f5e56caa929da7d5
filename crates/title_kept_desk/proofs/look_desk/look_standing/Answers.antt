-- The counter before the first row has what stood.
use Rattle.std.proofs.Common.{◌≡◌, ◌∙◌, ◌==◌, ℕ, ap, length, not, subst, sym}
use Rattle.title_desk.specs.Told.{Books}
use Rattle.title_daybook.specs.Books.{standing_of}
use Rattle.title_counter.specs.Counters.{Counter}
use Rattle.title_lasting.specs.Laws.KeptNews.{many_deeds}
use Rattle.title_kept_desk.specs.LookDesks.{LooksFrom}
use Rattle.title_kept_desk.proofs.DeskEnds.{onto_opening, unasked}
use Rattle.title_kept_desk.proofs.look_desk.look_standing.Goals as goal

pub onto-clerk-requires : goal.onto-clerk-requires
onto-clerk-requires g c =
    let stands = c.args.stands in
    let s = standing_of stands in
    let many : c.len-records.result ≡ length s.records =
    c.len-records.ensures ∙ stands.deeds.ok.0 ∙ sym (many_deeds stands.deeds.items) in
    let trace = ap (λ (d : Books). d.trace) c.into_inner.ensures ∙ c.requires.served.trace in
    record {
      setting = ap (λ (d : Books). d.setting) c.into_inner.ensures ∙ c.requires.served.setting;
      unasked = unasked s c.any_stand-shut.result c.into_inner.result.trace
          (c.any_stand-shut.ensures.any ∙ ap (λ (n : ℕ). not (n == 0)) many) trace;
    }

pub look_rows-requires-clause-none : goal.look_rows-requires-clause-none
look_rows-requires-clause-none g c = ap (λ (counter : Counter). counter.rows) c.onto-clerk.ensures.onto

pub returns : goal.returns
returns g c =
    let stands = c.args.stands in
    let s = standing_of stands in
    let many : c.len-records.result ≡ length s.records =
    c.len-records.ensures ∙ stands.deeds.ok.0 ∙ sym (many_deeds stands.deeds.items) in
    let trace = ap (λ (d : Books). d.trace) c.into_inner.ensures ∙ c.requires.served.trace in
    let is = c.onto-clerk.ensures.onto
    ∙ onto_opening s c.any_stand-shut.result c.into_inner.result.trace
    (c.any_stand-shut.ensures.any ∙ ap (λ (n : ℕ). not (n == 0)) many) trace in
    record {
      looks = subst
          (λ (counter : Counter). LooksFrom counter (g.R.Source.left c.args.source.now) (g.R.Source.left c.look_rows.new.source)
          (g.W.Sink.taken c.args.sink.now) (g.W.Sink.taken c.look_rows.new.sink) (g.R.Source.has_failed c.look_rows.new.source)
          (g.W.Sink.has_failed c.look_rows.new.sink) c.look_rows.result) is c.look_rows.ensures.looks;
    }
