-- How deep plots are after grafts, splits and changes.
use Rattle.std.proofs.Common.{◌≡◌, ℕ, zero, suc, ◌+◌, ◌≤◌, Bool, true, false, ◌&&◌, List, [], ◌∷◌, length, refl, ap, subst, ◌∙◌, arith}
use Rattle.std.proofs.Common.{inl, inr, Result, Ok, Err, OnErr}
use Rattle.title_tree.specs.{Pieces.{Short, StaysWithin, split_all}, Laws.Uniform.{four_all}}
use Rattle.title_tree.specs.Plots.{Plot, Same, Four, plot_at, graft, split, changed, same_leaf, joined, tidied, tidied_at, tidied_all, fits}
use Rattle.title_share.specs.Division.{Division}
use Rattle.title_land.specs.declared.rectangle.Quarter.{Quarter, TheVariants.{Northeast, Northwest, Southwest, Southeast}}

all_four : (a b c d : Bool) → a ≡ true → b ≡ true → c ≡ true → d ≡ true → (a && b && c && d) ≡ true
all_four a b c d e f g h = rw (e, f, g, h) refl

pub fits_graft : (levels n : ℕ) (p : List Quarter) (new t : Plot) → levels ≡ length p + n → fits levels t ≡ true → fits n new ≡ true
    → fits levels (graft p new t) ≡ true
fits_graft levels n [] new t e f g = let same : levels ≡ n = omega (arith, e) in rw same g
fits_graft levels n (q ∷ p) new (Same held) e f g = refl
fits_graft zero n (q ∷ p) new (Four a b c d) e f g = absurd cc
fits_graft (suc m) n (Northeast ∷ p) new (Four a b c d) e f g =
    let k = four_all (fits m a) (fits m b) (fits m c) (fits m d) f in
    all_four _ _ _ _ (fits_graft m n p new a (omega (arith, e)) k.0 g) k.1 k.2 k.3
fits_graft (suc m) n (Northwest ∷ p) new (Four a b c d) e f g =
    let k = four_all (fits m a) (fits m b) (fits m c) (fits m d) f in
    all_four _ _ _ _ k.0 (fits_graft m n p new b (omega (arith, e)) k.1 g) k.2 k.3
fits_graft (suc m) n (Southwest ∷ p) new (Four a b c d) e f g =
    let k = four_all (fits m a) (fits m b) (fits m c) (fits m d) f in
    all_four _ _ _ _ k.0 k.1 (fits_graft m n p new c (omega (arith, e)) k.2 g) k.3
fits_graft (suc m) n (Southeast ∷ p) new (Four a b c d) e f g =
    let k = four_all (fits m a) (fits m b) (fits m c) (fits m d) f in
    all_four _ _ _ _ k.0 k.1 k.2 (fits_graft m n p new d (omega (arith, e)) k.3 g)

pub fits_plot_at : (levels n : ℕ) (p : List Quarter) (t : Plot) → levels ≡ length p + n → fits levels t ≡ true → fits n (plot_at p t) ≡ true
fits_plot_at levels n [] t e f = let same : n ≡ levels = omega (arith, e) in rw same f
fits_plot_at levels n (q ∷ p) (Same held) e f = refl
fits_plot_at zero n (q ∷ p) (Four a b c d) e f = absurd cc
fits_plot_at (suc m) n (Northeast ∷ p) (Four a b c d) e f =
    fits_plot_at m n p a (omega (arith, e)) (four_all (fits m a) (fits m b) (fits m c) (fits m d) f).0
fits_plot_at (suc m) n (Northwest ∷ p) (Four a b c d) e f =
    fits_plot_at m n p b (omega (arith, e)) (four_all (fits m a) (fits m b) (fits m c) (fits m d) f).1
fits_plot_at (suc m) n (Southwest ∷ p) (Four a b c d) e f =
    fits_plot_at m n p c (omega (arith, e)) (four_all (fits m a) (fits m b) (fits m c) (fits m d) f).2
fits_plot_at (suc m) n (Southeast ∷ p) (Four a b c d) e f =
    fits_plot_at m n p d (omega (arith, e)) (four_all (fits m a) (fits m b) (fits m c) (fits m d) f).3

pub fits_split : (levels : ℕ) (p : List Quarter) (t : Plot) → length p ≤ levels → fits levels t ≡ true → fits levels (split p t) ≡ true
fits_split levels [] t l f = f
fits_split zero (q ∷ p) t l f = absurd (omega (arith, l))
fits_split (suc m) (Northeast ∷ p) (Same held) l f = all_four _ _ _ _ (fits_split m p (Same held) (omega (arith, l)) refl) refl refl refl
fits_split (suc m) (Northwest ∷ p) (Same held) l f = all_four _ _ _ _ refl (fits_split m p (Same held) (omega (arith, l)) refl) refl refl
fits_split (suc m) (Southwest ∷ p) (Same held) l f = all_four _ _ _ _ refl refl (fits_split m p (Same held) (omega (arith, l)) refl) refl
fits_split (suc m) (Southeast ∷ p) (Same held) l f = all_four _ _ _ _ refl refl refl (fits_split m p (Same held) (omega (arith, l)) refl)
fits_split (suc m) (Northeast ∷ p) (Four a b c d) l f =
    let k = four_all (fits m a) (fits m b) (fits m c) (fits m d) f in
    all_four _ _ _ _ (fits_split m p a (omega (arith, l)) k.0) k.1 k.2 k.3
fits_split (suc m) (Northwest ∷ p) (Four a b c d) l f =
    let k = four_all (fits m a) (fits m b) (fits m c) (fits m d) f in
    all_four _ _ _ _ k.0 (fits_split m p b (omega (arith, l)) k.1) k.2 k.3
fits_split (suc m) (Southwest ∷ p) (Four a b c d) l f =
    let k = four_all (fits m a) (fits m b) (fits m c) (fits m d) f in
    all_four _ _ _ _ k.0 k.1 (fits_split m p c (omega (arith, l)) k.2) k.3
fits_split (suc m) (Southeast ∷ p) (Four a b c d) l f =
    let k = four_all (fits m a) (fits m b) (fits m c) (fits m d) f in
    all_four _ _ _ _ k.0 k.1 k.2 (fits_split m p d (omega (arith, l)) k.3)

pub fits_changed : (levels : ℕ) (change : Division → Division) (t : Plot) → fits levels t ≡ true → fits levels (changed change t) ≡ true
fits_changed levels change (Same held) f = refl
fits_changed zero change (Four a b c d) f = absurd cc
fits_changed (suc m) change (Four a b c d) f =
    let k = four_all (fits m a) (fits m b) (fits m c) (fits m d) f in
    all_four _ _ _ _ (fits_changed m change a k.0) (fits_changed m change b k.1) (fits_changed m change c k.2) (fits_changed m change d k.3)

-- a leaf fits any depth
fits_joined : (e : Bool) (levels : ℕ) (a b c d : Plot) → (same_leaf a b && same_leaf a c && same_leaf a d) ≡ e
    → fits levels (Four a b c d) ≡ true → fits levels (joined (Four a b c d)) ≡ true
fits_joined false levels a b c d e f = rw e f
fits_joined true levels (Same held) b c d e f = rw e refl
fits_joined true levels (Four k l m n) b c d e f = absurd cc

pub fits_tidied : (levels : ℕ) (t : Plot) → fits levels t ≡ true → fits levels (tidied t) ≡ true
fits_tidied levels (Same held) f = refl
fits_tidied zero (Four a b c d) f = absurd cc
fits_tidied (suc m) (Four a b c d) f =
    let k = four_all (fits m a) (fits m b) (fits m c) (fits m d) f in
    fits_joined _ (suc m) (tidied a) (tidied b) (tidied c) (tidied d) refl
    (all_four _ _ _ _ (fits_tidied m a k.0) (fits_tidied m b k.1) (fits_tidied m c k.2) (fits_tidied m d k.3))

pub fits_tidied_at : (levels : ℕ) (p : List Quarter) (t : Plot) → fits levels t ≡ true → fits levels (tidied_at p t) ≡ true
fits_tidied_at levels [] t f = fits_tidied levels t f
fits_tidied_at levels (q ∷ p) (Same held) f = refl
fits_tidied_at zero (q ∷ p) (Four a b c d) f = absurd cc
fits_tidied_at (suc m) (Northeast ∷ p) (Four a b c d) f =
    let k = four_all (fits m a) (fits m b) (fits m c) (fits m d) f in
    fits_joined _ (suc m) (tidied_at p a) b c d refl (all_four _ _ _ _ (fits_tidied_at m p a k.0) k.1 k.2 k.3)
fits_tidied_at (suc m) (Northwest ∷ p) (Four a b c d) f =
    let k = four_all (fits m a) (fits m b) (fits m c) (fits m d) f in
    fits_joined _ (suc m) a (tidied_at p b) c d refl (all_four _ _ _ _ k.0 (fits_tidied_at m p b k.1) k.2 k.3)
fits_tidied_at (suc m) (Southwest ∷ p) (Four a b c d) f =
    let k = four_all (fits m a) (fits m b) (fits m c) (fits m d) f in
    fits_joined _ (suc m) a b (tidied_at p c) d refl (all_four _ _ _ _ k.0 k.1 (fits_tidied_at m p c k.2) k.3)
fits_tidied_at (suc m) (Southeast ∷ p) (Four a b c d) f =
    let k = four_all (fits m a) (fits m b) (fits m c) (fits m d) f in
    fits_joined _ (suc m) a b c (tidied_at p d) refl (all_four _ _ _ _ k.0 k.1 k.2 (fits_tidied_at m p d k.3))

pub fits_tidied_all : (levels : ℕ) (ps : List (List Quarter)) (t : Plot) → fits levels t ≡ true → fits levels (tidied_all ps t) ≡ true
fits_tidied_all levels [] t f = f
fits_tidied_all levels (p ∷ ps) t f = fits_tidied_all levels ps (tidied_at p t) (fits_tidied_at levels p t f)

-- what the rest of some splits keeps within the levels after the first, all of them do
pub within_split : {A E : Type 0} (r : Result A E) (p : List Quarter) (ps qs : List (List Quarter)) (t u v : Plot) → qs ≡ p ∷ ps
    → u ≡ split p t → OnErr r (StaysWithin ps u v) → OnErr r (StaysWithin qs t v)
within_split (Ok x) p ps qs t u v l e h = tt
within_split (Err f) p ps qs t u v l e h = λ n s k.
    let short = subst (λ (z : List (List Quarter)). Short z n) l s in
    h n (λ q i. short q (inr i)) (ap (fits n) e ∙ fits_split n p t (short p (inl refl)) k)

pub split_all_fits : (ps : List (List Quarter)) (t : Plot) → StaysWithin ps t (split_all ps t)
split_all_fits [] t n s k = k
split_all_fits (p ∷ ps) t n s k = split_all_fits ps (split p t) n (λ q i. s q (inr i)) (fits_split n p t (s p (inl refl)) k)
