-- What is learnt is the longer of both.
use Rattle.std.{proofs.Common.{◌≡◌, ⊎_elim, inl, inr, length, ap, sym, ◌∙◌, refl, subst}, specs.Prelude.{nat_lt}}
use mathlib.Core.List.{IsPrefix}
use Rattle.title_ledger.specs.Ledgers.{sure_of}
use Rattle.title_views.{specs.Views.{Sight, Shows, longer}, proofs.Sights.{longer_is}}
use Rattle.title_views.proofs.viewer.Watcher.learn.Goals as goal

pub returns : goal.returns
returns g c =
    let s = c.self.view_is in
    let r = c.receipt.view_is in
    let l = c.longer.ensures in
    let mine = ap (λ (x : Sight). x.told) s in
    let other = ap (λ (x : Shows). x.front) r in
    let a = sure_of c.self.inside.told in
    let b = sure_of c.receipt.inside.front in
    let z = sure_of c.longer.result in
    let is : z ≡ longer a b = longer_is a b z (⊎_elim (λ e. inl (ap sure_of e)) (λ e. inr (ap sure_of e)) l.one) l.this l.that
    (nat_lt (length a) (length b)) refl in
    let same : longer a b ≡ longer c.args.self.now.told c.args.receipt.now.front = (λ i. longer (mine i) (other i)) in
    record {
      learnt = (
        sym (ap (λ (x : Shows). x.number) r) ∙ c.if-receipt-self.false ∙ ap (λ (x : Sight). x.number) s,
        (λ i. record { number = (s i).number; seen = (s i).seen; told = (is ∙ same) i }),
        subst (λ w. IsPrefix w z) mine l.this,
        subst (λ w. IsPrefix w z) other l.that,
      );
    }
