-- Where the counts are clear nobody is in the way.
use Rattle.std.proofs.Common.{◌≡◌, ◌≢◌, ◌∙◌, ℕ, false, ap, sym, subst}
use Rattle.title_lock.{specs.Holders.{Modes, holder_mode, clashes}, proofs.CountLaws.{clear_way}}
use Rattle.title_lock.proofs.holders.Holders.way.Goals as goal

pub returns-then-is_clear-clause-way : goal.returns-then-is_clear-clause-way
returns-then-is_clear-clause-way c =
    let e = c.args.examiner in
    subst (λ (h : Modes). (f : ℕ) → f ≢ e → clashes c.args.wanted (holder_mode h f) ≡ false) c.self.view_is
    (clear_way c.self.inside.counts c.self.inside.slots e c.mode-held.result c.args.wanted c.self.invariant
    (c.mode-held.ensures.mode ∙ ap (λ (h : Modes). holder_mode h e) (sym c.self.view_is))
    (sym c.is_clear.ensures.clear ∙ c.if-is_clear.true))
