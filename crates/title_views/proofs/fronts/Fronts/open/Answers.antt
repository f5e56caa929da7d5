-- No record is published, and no entry made.
use Rattle.std.proofs.Common.{◌≡◌, [], ap, sym, ◌∙◌, length, inl, arith}
use Rattle.title_views.{specs.Views.{Shown}, proofs.Growing.{begins, no_entry}}
use Rattle.title_views.proofs.fronts.Fronts.open.Goals as goal

pub new-requires-clause-rule : goal.new-requires-clause-rule
new-requires-clause-rule g c =
    let e = c.new-first.ensures.new in
    let p = c.page.ensures in
    begins g.B.Room.setting.townships g.B.Room.book c.new-first.result (ap (λ (x : Shown). x.page.book) e ∙ p.book)
    (ap (λ (x : Shown). x.page.log) e ∙ p.log ∙ c.named-head.ensures.empty) (ap (λ (x : Shown). x.records) e)

pub invariant_of-result : goal.invariant_of-result
invariant_of-result g c =
    let w = c.in_ok-writer.ensures in
    let empty = c.named-head.ensures.empty in
    let again = c.again-sure.ensures.again in
    let recs : c.in_ok-writer.writer.desk.shown.value.records ≡ [] =
    ap (λ (x : Shown). x.records) w.0 ∙ ap (λ (x : Shown). x.records) c.new-first.ensures.new in (
      (no_entry _ empty).0 ∙ sym recs,
      (no_entry _ (again ∙ empty)).0 ∙ sym recs,
      inl (again ∙ empty),
      λ k d lt. absurd (omega (arith, ap length w.1)),
    )
