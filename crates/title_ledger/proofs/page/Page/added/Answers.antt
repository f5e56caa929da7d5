-- The exchange adds the entry that is asked for.
use Rattle.std.proofs.Common.{◌≡◌, length, ap, sym, ◌∙◌}
use Rattle.title_ledger.proofs.Adding.{adds_moves}
use Rattle.title_ledger.proofs.page.Page.added.Goals as goal

pub compare_exchange-found-requires : goal.compare_exchange-found-requires
compare_exchange-found-requires g c =
    let h = c.requires.head in
    let offer = c.plain-offer.ensures in
    let pen = c.no_pen-pen.ensures in
    let a = c.again-seen.ensures in
    let b : c.again-seen.result.book ≡ c.args.head.now.book =
    ap (λ s. s.book) a ∙ ap (λ p. p.book) c.self.view_is ∙ sym (ap (λ w. w.book) h) in (
      ap (λ w. w.tracked) h,
      b,
      pen.0 ∙ b,
      offer.0,
      rw (ap (λ w. w.key) h, pen.1, offer.3 ∙ c.requires.open) (adds_moves c.again-seen.result.log c.plain-offer.result.ask
          c.self.inside.entries (ap (λ s. length s.log) a ∙ sym c.self.invariant)),
    )
