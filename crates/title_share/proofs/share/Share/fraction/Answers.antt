-- Reduced units are the share's fraction in lowest terms.
use Rattle.std.proofs.Common.{sym, subst, ℕ}
use Rattle.title_share.specs.{Share.{IsFraction, IsLowest, IsShareText, share_text}, Laws.ShareLaws.{lowest_fraction, text_named}}
use Rattle.title_share.proofs.share.Share.fraction.Goals as goal

pub returns-clause-fraction : goal.returns-clause-fraction
returns-clause-fraction c =
    let u = c.units.result in
    let law = lowest_fraction u c.units.ensures.some c.units.ensures.most in
    let mine : IsFraction c.reduced.result.0 c.reduced.result.1 u = subst (λ (p : ℕ × ℕ). IsFraction p.0 p.1 u)
    (sym c.reduced.ensures.lowest) law.0 in
    subst (IsFraction c.reduced.result.0 c.reduced.result.1) c.units.ensures.units mine

pub returns-clause-lowest : goal.returns-clause-lowest
returns-clause-lowest c =
    let law = lowest_fraction c.units.result c.units.ensures.some c.units.ensures.most in
    subst (λ (p : ℕ × ℕ). IsLowest p.0 p.1) (sym c.reduced.ensures.lowest) law.1

pub returns-clause-named : goal.returns-clause-named
returns-clause-named c =
    subst (λ (u : ℕ). IsShareText (share_text u) u) c.units.ensures.units
    (text_named c.units.result c.units.ensures.some c.units.ensures.most)
