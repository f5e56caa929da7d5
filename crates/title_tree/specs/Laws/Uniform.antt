-- Plots whose cells all hold the same, and plots that are tidied.
use Rattle.std.proofs.Common.{◌≡◌, ℕ, zero, suc, Bool, true, false, ◌&&◌, cond, List, [], ◌∷◌, length, Option, Some, None}
use Rattle.std.proofs.Common.{refl, sym, ap, ◌∙◌}
use Rattle.title_share.specs.Division.{Division}
use Rattle.title_land.specs.declared.rectangle.Quarter.{Quarter, TheVariants.{Northeast, Northwest, Southwest, Southeast}}
use Rattle.title_tree.specs.Plots.{Plot, Same, Four, value_at, same_division, agreed, uniform, same_leaf, joined}
use Rattle.title_tree.specs.{Plots.{tidied, tidied_at, tidied_all, fits}, Laws.SameDivisions.{same_is, same_self}}

pub four_all : (a b c d : Bool) → (a && b && c && d) ≡ true → (a ≡ true) × (b ≡ true) × (c ≡ true) × (d ≡ true)
four_all true true true true h = (refl, refl, refl, refl)
four_all true true true false h = absurd cc
four_all true true false d h = absurd cc
four_all true false c d h = absurd cc
four_all false b c d h = absurd cc

pub three_all : (a b c : Bool) → (a && b && c) ≡ true → (a ≡ true) × (b ≡ true) × (c ≡ true)
three_all true true true h = (refl, refl, refl)
three_all true true false h = absurd cc
three_all true false c h = absurd cc
three_all false b c h = absurd cc

agreed_four : (e : Bool) (w x y z v : Division) → (same_division w x && same_division w y && same_division w z) ≡ e
    → cond e (Some w) None ≡ Some v → (Some w ≡ Some v) × (Some x ≡ Some v) × (Some y ≡ Some v) × (Some z ≡ Some v)
agreed_four false w x y z v k h = absurd cc
agreed_four true w x y z v k h =
    let j = three_all (same_division w x) (same_division w y) (same_division w z) k in
    let some = λ (u : Division). Some u in
    (h, ap some (sym (same_is w x j.0)) ∙ h, ap some (sym (same_is w y j.1)) ∙ h, ap some (sym (same_is w z j.2)) ∙ h)

-- a division that four squares agree on is each one's
agreed_some : (w x y z : Option Division) (v : Division) → agreed w x y z ≡ Some v
    → (w ≡ Some v) × (x ≡ Some v) × (y ≡ Some v) × (z ≡ Some v)
agreed_some (Some w) (Some x) (Some y) (Some z) v h =
    agreed_four (same_division w x && same_division w y && same_division w z) w x y z v refl h
agreed_some (Some w) (Some x) (Some y) None v h = absurd cc
agreed_some (Some w) (Some x) None z v h = absurd cc
agreed_some (Some w) None y z v h = absurd cc
agreed_some None x y z v h = absurd cc

pub uniform_is_held : (t : Plot) (w : Division) → uniform t ≡ Some w → (c : List Quarter) → value_at t c ≡ w
uniform_is_held (Same held) w h c = cc
uniform_is_held (Four a b c d) w h [] = uniform_is_held a w (agreed_some (uniform a) (uniform b) (uniform c) (uniform d) w h).0 []
uniform_is_held (Four a b c d) w h (Northeast ∷ p) =
    uniform_is_held a w (agreed_some (uniform a) (uniform b) (uniform c) (uniform d) w h).0 p
uniform_is_held (Four a b c d) w h (Northwest ∷ p) =
    uniform_is_held b w (agreed_some (uniform a) (uniform b) (uniform c) (uniform d) w h).1 p
uniform_is_held (Four a b c d) w h (Southwest ∷ p) =
    uniform_is_held c w (agreed_some (uniform a) (uniform b) (uniform c) (uniform d) w h).2 p
uniform_is_held (Four a b c d) w h (Southeast ∷ p) =
    uniform_is_held d w (agreed_some (uniform a) (uniform b) (uniform c) (uniform d) w h).3 p

-- some path of a cell
pub corner : ℕ → List Quarter
corner zero = []
corner (suc levels) = Northeast ∷ corner levels

pub length-corner : (levels : ℕ) → length (corner levels) ≡ levels
unfolding corner
length-corner zero = refl
length-corner (suc levels) = ap (λ (n : ℕ). suc n) (length-corner levels)

pub uniform_is_found : (levels : ℕ) (t : Plot) (w : Division) → fits levels t ≡ true
    → ((c : List Quarter) → length c ≡ levels → value_at t c ≡ w) → uniform t ≡ Some w
uniform_is_found levels (Same held) w f h = ap (λ (z : Division). Some z) (h (corner levels) (length-corner levels))
uniform_is_found zero (Four a b c d) w f h = absurd cc
uniform_is_found (suc levels) (Four a b c d) w f h =
    let k = four_all (fits levels a) (fits levels b) (fits levels c) (fits levels d) f in
    let more = λ (n : ℕ). suc n in
    rw (
      uniform_is_found levels a w k.0 (λ p e. h (Northeast ∷ p) (ap more e)),
      uniform_is_found levels b w k.1 (λ p e. h (Northwest ∷ p) (ap more e)),
      uniform_is_found levels c w k.2 (λ p e. h (Southwest ∷ p) (ap more e)),
      uniform_is_found levels d w k.3 (λ p e. h (Southeast ∷ p) (ap more e)),
      same_self w,
    ) refl

-- two leaves that hold the same hold it in each cell
same_leaf_holds : (a b : Plot) → same_leaf a b ≡ true → (c x : List Quarter) → value_at a c ≡ value_at b x
same_leaf_holds (Same held) (Same other) h c x = same_is held other h
same_leaf_holds (Same held) (Four k l m n) h c x = absurd cc
same_leaf_holds (Four k l m n) b h c x = absurd cc

alike : (a b c d : Plot) → same_leaf a b ≡ true → same_leaf a c ≡ true → same_leaf a d ≡ true
    → (x : List Quarter) → value_at a x ≡ value_at (Four a b c d) x
alike (Same held) b c d e f g [] = refl
alike (Four k l m n) b c d e f g x = same_leaf_holds (Four k l m n) b e x x ∙ absurd cc
alike (Same held) b c d e f g (Northeast ∷ x) = refl
alike (Same held) b c d e f g (Northwest ∷ x) = same_leaf_holds (Same held) b e x x
alike (Same held) b c d e f g (Southwest ∷ x) = same_leaf_holds (Same held) c f x x
alike (Same held) b c d e f g (Southeast ∷ x) = same_leaf_holds (Same held) d g x x

joined_case : (e : Bool) (a b c d : Plot) → (same_leaf a b && same_leaf a c && same_leaf a d) ≡ e
    → (x : List Quarter) → value_at (cond e a (Four a b c d)) x ≡ value_at (Four a b c d) x
joined_case false a b c d h x = refl
joined_case true a b c d h x =
    let k = three_all (same_leaf a b) (same_leaf a c) (same_leaf a d) h in
    alike a b c d k.0 k.1 k.2 x

four_show : (a b c d k l m n : Plot) → ((p : List Quarter) → value_at k p ≡ value_at a p)
    → ((p : List Quarter) → value_at l p ≡ value_at b p) → ((p : List Quarter) → value_at m p ≡ value_at c p)
    → ((p : List Quarter) → value_at n p ≡ value_at d p) → (x : List Quarter) → value_at (Four k l m n) x ≡ value_at (Four a b c d) x
four_show a b c d k l m n e f g h [] = e []
four_show a b c d k l m n e f g h (Northeast ∷ p) = e p
four_show a b c d k l m n e f g h (Northwest ∷ p) = f p
four_show a b c d k l m n e f g h (Southwest ∷ p) = g p
four_show a b c d k l m n e f g h (Southeast ∷ p) = h p

pub tidied_shows : (t : Plot) (x : List Quarter) → value_at (tidied t) x ≡ value_at t x
tidied_shows (Same held) x = refl
tidied_shows (Four a b c d) x =
    joined_case (same_leaf (tidied a) (tidied b) && same_leaf (tidied a) (tidied c) && same_leaf (tidied a) (tidied d))
    (tidied a) (tidied b) (tidied c) (tidied d) refl x
    ∙ four_show a b c d (tidied a) (tidied b) (tidied c) (tidied d)
    (λ p. tidied_shows a p) (λ p. tidied_shows b p) (λ p. tidied_shows c p) (λ p. tidied_shows d p) x

joined_show : (a b c d : Plot) (x : List Quarter) → value_at (joined (Four a b c d)) x ≡ value_at (Four a b c d) x
joined_show a b c d x = joined_case (same_leaf a b && same_leaf a c && same_leaf a d) a b c d refl x

pub tidied_at_shows : (p : List Quarter) (t : Plot) (x : List Quarter) → value_at (tidied_at p t) x ≡ value_at t x
tidied_at_shows [] t x = tidied_shows t x
tidied_at_shows (q ∷ p) (Same held) x = refl
tidied_at_shows (Northeast ∷ p) (Four a b c d) x =
    joined_show (tidied_at p a) b c d x
    ∙ four_show a b c d (tidied_at p a) b c d (λ y. tidied_at_shows p a y) (λ y. refl) (λ y. refl) (λ y. refl) x
tidied_at_shows (Northwest ∷ p) (Four a b c d) x =
    joined_show a (tidied_at p b) c d x
    ∙ four_show a b c d a (tidied_at p b) c d (λ y. refl) (λ y. tidied_at_shows p b y) (λ y. refl) (λ y. refl) x
tidied_at_shows (Southwest ∷ p) (Four a b c d) x =
    joined_show a b (tidied_at p c) d x
    ∙ four_show a b c d a b (tidied_at p c) d (λ y. refl) (λ y. refl) (λ y. tidied_at_shows p c y) (λ y. refl) x
tidied_at_shows (Southeast ∷ p) (Four a b c d) x =
    joined_show a b c (tidied_at p d) x
    ∙ four_show a b c d a b c (tidied_at p d) (λ y. refl) (λ y. refl) (λ y. refl) (λ y. tidied_at_shows p d y) x

pub tidied_all_shows : (ps : List (List Quarter)) (t : Plot) (x : List Quarter) → value_at (tidied_all ps t) x ≡ value_at t x
tidied_all_shows [] t x = refl
tidied_all_shows (p ∷ ps) t x = tidied_all_shows ps (tidied_at p t) x ∙ tidied_at_shows p t x
