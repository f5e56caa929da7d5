-- One outcome more.
use Rattle.std.proofs.{Common.{◌≡◌, ◌≤◌, length, take, drop, ◌∙◌, ap, refl}, lemmas.{List.{take_at, length-set}, Option.{slice_get_read}}}
use Rattle.title_settle.{specs.declared.outcome.Outcome.{Outcome}, proofs.{Seen.{taken_more, holds_at}, Marking.{marks_more}}}
use Rattle.title_settle.proofs.marks.marks_of.Goals as goal

pub loop-index-preserved : goal.loop-index-preserved
loop-index-preserved c =
    let outcomes = c.args.outcomes.now in
    let i = c.loop-index.index in
    let o = c.index-outcomes-index.result in
    let low = c.loop-index-test.true in
    let is = c.index-outcomes-index.is in
    let new = c.mark_place.new.marks in
    let known = holds_at (λ (x : Outcome). (1 ≤ x.place) × (x.place ≤ c.args.places)) outcomes i o low is c.requires.known in
    let len : length new ≡ c.loop-index.marks.len =
    ap length c.mark_place.ensures.marked ∙ length-set c.deref_mut.result.now _ _ ∙ c.deref_mut.ensures.len in
    rw (
      take_at new (drop (length new) c.loop-index.marks.items) c.loop-index.marks.len len,
      c.mark_place.ensures.marked,
      c.deref_mut.ensures.value,
      taken_more outcomes i o low is,
    )
    (marks_more c.args.places outcomes (take i outcomes) c.loop-index.marks.items i o
    (slice_get_read outcomes _ i o refl low is) known.0 known.1 c.loop-index.invariant)
