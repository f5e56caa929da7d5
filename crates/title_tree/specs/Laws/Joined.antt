-- Where plots are joined.
use Rattle.std.proofs.Common.{◌≡◌, Bool, true, false, ◌&&◌, not, cond, List, [], ◌∷◌, refl, sym, ap, subst, ◌∙◌, inl, inr}
use Rattle.std.{proofs.Common.{Result, Ok, Err, OnErr}, proofs.lemmas.Bool.{and_parts}}
use Rattle.title_share.specs.Division.{Division}
use Rattle.title_land.specs.declared.rectangle.Quarter.{Quarter, TheVariants.{Northeast, Northwest, Southwest, Southeast}}
use Rattle.title_tree.specs.{Joins.{is_joinable}, Paths.{begins}, Joining.{ApartFromAll, JoinedBut}}
use Rattle.title_tree.specs.Plots.{Plot, Same, Four, plot_at, graft, split, same_leaf, joined, is_tidy, tidied, tidied_at, tidied_all}
use Rattle.title_tree.specs.{Pieces.{Piece, paths, swapped, split_all, Apart, StaysElsewhere}, Laws.Beginnings.{begins_append}}
use Rattle.title_tree.specs.Laws.{Grafts.{plot_at_split}, Uniform.{four_all}}

-- ---- tidy plots

-- in a leaf nothing is to be joined
pub joinable_same : (q : List Quarter) (held : Division) → is_joinable (plot_at q (Same held)) ≡ false
joinable_same [] held = refl
joinable_same (x ∷ q) held = refl

not_so : (b : Bool) → not b ≡ true → b ≡ false
not_so true h = absurd cc
not_so false h = refl

tidy_parts : (a b c d : Plot) → is_tidy (Four a b c d) ≡ true → (is_tidy a ≡ true) × (is_tidy b ≡ true) × (is_tidy c ≡ true)
    × (is_tidy d ≡ true) × ((same_leaf a b && same_leaf a c && same_leaf a d) ≡ false)
tidy_parts a b c d h =
    let parts = and_parts (is_tidy a && is_tidy b && is_tidy c && is_tidy d) (not (same_leaf a b && same_leaf a c && same_leaf a d)) h in
    let four = four_all (is_tidy a) (is_tidy b) (is_tidy c) (is_tidy d) parts.0 in
    (four.0, four.1, four.2, four.3, not_so (same_leaf a b && same_leaf a c && same_leaf a d) parts.1)

-- of a tidy plot no node is to be joined
pub nowhere : (t : Plot) → is_tidy t ≡ true → (q : List Quarter) → is_joinable (plot_at q t) ≡ false
nowhere (Same held) h q = joinable_same q held
nowhere (Four a b c d) h [] = (tidy_parts a b c d h).4
nowhere (Four a b c d) h (Northeast ∷ q) = nowhere a (tidy_parts a b c d h).0 q
nowhere (Four a b c d) h (Northwest ∷ q) = nowhere b (tidy_parts a b c d h).1 q
nowhere (Four a b c d) h (Southwest ∷ q) = nowhere c (tidy_parts a b c d h).2 q
nowhere (Four a b c d) h (Southeast ∷ q) = nowhere d (tidy_parts a b c d h).3 q

all_tidy : (a b c d x : Bool) → a ≡ true → b ≡ true → c ≡ true → d ≡ true → x ≡ false → ((a && b && c && d) && not x) ≡ true
all_tidy a b c d x e f g h k = rw (e, f, g, h, k) refl

-- a plot of which no node is to be joined is tidy
pub tidy_from : (t : Plot) → ((q : List Quarter) → is_joinable (plot_at q t) ≡ false) → is_tidy t ≡ true
tidy_from (Same held) h = refl
tidy_from (Four a b c d) h =
    all_tidy (is_tidy a) (is_tidy b) (is_tidy c) (is_tidy d) (same_leaf a b && same_leaf a c && same_leaf a d)
    (tidy_from a (λ q. h (Northeast ∷ q))) (tidy_from b (λ q. h (Northwest ∷ q)))
    (tidy_from c (λ q. h (Southwest ∷ q))) (tidy_from d (λ q. h (Southeast ∷ q))) (h [])

either_tidy : (e : Bool) (x y : Plot) → (e ≡ true → is_tidy x ≡ true) → (e ≡ false → is_tidy y ≡ true) → is_tidy (cond e x y) ≡ true
either_tidy true x y f g = f refl
either_tidy false x y f g = g refl

joined_tidy : (a b c d : Plot) → is_tidy a ≡ true → is_tidy b ≡ true → is_tidy c ≡ true → is_tidy d ≡ true
    → is_tidy (joined (Four a b c d)) ≡ true
joined_tidy a b c d e f g h =
    either_tidy (same_leaf a b && same_leaf a c && same_leaf a d) a (Four a b c d) (λ k. e)
    (λ k. all_tidy (is_tidy a) (is_tidy b) (is_tidy c) (is_tidy d) (same_leaf a b && same_leaf a c && same_leaf a d) e f g h k)

pub tidied_tidy : (t : Plot) → is_tidy (tidied t) ≡ true
tidied_tidy (Same held) = refl
tidied_tidy (Four a b c d) =
    joined_tidy (tidied a) (tidied b) (tidied c) (tidied d) (tidied_tidy a) (tidied_tidy b) (tidied_tidy c) (tidied_tidy d)

-- ---- a node after others were joined

three_first : (a b c : Bool) → (a && b && c) ≡ true → a ≡ true
three_first true b c h = refl
three_first false b c h = absurd cc

leaf_alone : (a b : Plot) → same_leaf a b ≡ true → (q : List Quarter) → is_joinable (plot_at q a) ≡ false
leaf_alone (Same held) b h q = joinable_same q held
leaf_alone (Four k l m n) b h q = absurd cc

either_at : (e : Bool) (x y : Plot) (q : List Quarter) → (e ≡ true → is_joinable (plot_at q x) ≡ false)
    → (e ≡ false → is_joinable (plot_at q y) ≡ false) → is_joinable (plot_at q (cond e x y)) ≡ false
either_at true x y q f g = f refl
either_at false x y q f g = g refl

joined_top : (a b c d : Plot) → is_joinable (joined (Four a b c d)) ≡ false
joined_top a b c d =
    either_at (same_leaf a b && same_leaf a c && same_leaf a d) a (Four a b c d) []
    (λ k. leaf_alone a b (three_first (same_leaf a b) (same_leaf a c) (same_leaf a d) k) []) (λ k. k)

joined_below : (a b c d : Plot) (x : Quarter) (q : List Quarter) → is_joinable (plot_at (x ∷ q) (Four a b c d)) ≡ false
    → is_joinable (plot_at (x ∷ q) (joined (Four a b c d))) ≡ false
joined_below a b c d x q h =
    either_at (same_leaf a b && same_leaf a c && same_leaf a d) a (Four a b c d) (x ∷ q)
    (λ k. leaf_alone a b (three_first (same_leaf a b) (same_leaf a c) (same_leaf a d) k) (x ∷ q)) (λ k. h)

-- once a plot is tidied at a path, what was joined but there is joined there too, whichever nodes (U) are spoken of
pub tidied_apart : (U : List Quarter → Type 0) (p : List Quarter) (t : Plot)
    → ((q : List Quarter) → U q → begins p q ≡ false → begins q p ≡ false → is_joinable (plot_at q t) ≡ false)
    → (q : List Quarter) → U q → is_joinable (plot_at q (tidied_at p t)) ≡ false
tidied_apart U [] t f q u = nowhere (tidied t) (tidied_tidy t) q
tidied_apart U (x ∷ p) (Same held) f q u = joinable_same q held
tidied_apart U (Northeast ∷ p) (Four a b c d) f [] u = joined_top (tidied_at p a) b c d
tidied_apart U (Northeast ∷ p) (Four a b c d) f (Northeast ∷ q) u =
    joined_below (tidied_at p a) b c d Northeast q
    (tidied_apart (λ r. U (Northeast ∷ r)) p a (λ r v g h. f (Northeast ∷ r) v g h) q u)
tidied_apart U (Northeast ∷ p) (Four a b c d) f (y ∷ q) u = joined_below (tidied_at p a) b c d y q (f (y ∷ q) u refl refl)
tidied_apart U (Northwest ∷ p) (Four a b c d) f [] u = joined_top a (tidied_at p b) c d
tidied_apart U (Northwest ∷ p) (Four a b c d) f (Northwest ∷ q) u =
    joined_below a (tidied_at p b) c d Northwest q
    (tidied_apart (λ r. U (Northwest ∷ r)) p b (λ r v g h. f (Northwest ∷ r) v g h) q u)
tidied_apart U (Northwest ∷ p) (Four a b c d) f (y ∷ q) u = joined_below a (tidied_at p b) c d y q (f (y ∷ q) u refl refl)
tidied_apart U (Southwest ∷ p) (Four a b c d) f [] u = joined_top a b (tidied_at p c) d
tidied_apart U (Southwest ∷ p) (Four a b c d) f (Southwest ∷ q) u =
    joined_below a b (tidied_at p c) d Southwest q
    (tidied_apart (λ r. U (Southwest ∷ r)) p c (λ r v g h. f (Southwest ∷ r) v g h) q u)
tidied_apart U (Southwest ∷ p) (Four a b c d) f (y ∷ q) u = joined_below a b (tidied_at p c) d y q (f (y ∷ q) u refl refl)
tidied_apart U (Southeast ∷ p) (Four a b c d) f [] u = joined_top a b c (tidied_at p d)
tidied_apart U (Southeast ∷ p) (Four a b c d) f (Southeast ∷ q) u =
    joined_below a b c (tidied_at p d) Southeast q
    (tidied_apart (λ r. U (Southeast ∷ r)) p d (λ r v g h. f (Southeast ∷ r) v g h) q u)
tidied_apart U (Southeast ∷ p) (Four a b c d) f (y ∷ q) u = joined_below a b c (tidied_at p d) y q (f (y ∷ q) u refl refl)

apart_more : (q p : List Quarter) (ps : List (List Quarter)) → begins q p ≡ false → begins p q ≡ false → Apart q ps → Apart q (p ∷ ps)
apart_more q p ps g h a x i = elim i [
  | inl e ↦ (ap (λ (z : List Quarter). begins q z) e ∙ g, ap (λ (z : List Quarter). begins z q) e ∙ h)
  | inr j ↦ a x j
]

pub tidied_all_apart : (U : List Quarter → Type 0) (ps : List (List Quarter)) (t : Plot)
    → ((q : List Quarter) → U q → Apart q ps → is_joinable (plot_at q t) ≡ false)
    → (q : List Quarter) → U q → is_joinable (plot_at q (tidied_all ps t)) ≡ false
tidied_all_apart U [] t f q u = f q u (λ x i. absurd i)
tidied_all_apart U (p ∷ ps) t f q u =
    tidied_all_apart U ps (tidied_at p t)
    (λ r v a. tidied_apart (λ s. U s × Apart s ps) p t (λ s w g h. f s w.0 (apart_more s p ps h g w.1)) r (v, a)) q u

-- ---- what stays elsewhere

pub elsewhere_graft : (p q : List Quarter) (new t : Plot) → begins p q ≡ false → begins q p ≡ false
    → plot_at q (graft p new t) ≡ plot_at q t
elsewhere_graft [] q new t f g = absurd cc
elsewhere_graft (x ∷ p) [] new t f g = absurd cc
elsewhere_graft (x ∷ p) (y ∷ q) new (Same held) f g = refl
elsewhere_graft (Northeast ∷ p) (Northeast ∷ q) new (Four a b c d) f g = elsewhere_graft p q new a f g
elsewhere_graft (Northeast ∷ p) (y ∷ q) new (Four a b c d) f g = refl
elsewhere_graft (Northwest ∷ p) (Northwest ∷ q) new (Four a b c d) f g = elsewhere_graft p q new b f g
elsewhere_graft (Northwest ∷ p) (y ∷ q) new (Four a b c d) f g = refl
elsewhere_graft (Southwest ∷ p) (Southwest ∷ q) new (Four a b c d) f g = elsewhere_graft p q new c f g
elsewhere_graft (Southwest ∷ p) (y ∷ q) new (Four a b c d) f g = refl
elsewhere_graft (Southeast ∷ p) (Southeast ∷ q) new (Four a b c d) f g = elsewhere_graft p q new d f g
elsewhere_graft (Southeast ∷ p) (y ∷ q) new (Four a b c d) f g = refl

pub elsewhere_split : (p q : List Quarter) (t : Plot) → begins q p ≡ false → plot_at q (split p t) ≡ plot_at q t
elsewhere_split p q t g =
    plot_at_split q p t (λ r e. let k : begins q p ≡ true = ap (λ (z : List Quarter). begins q z) e ∙ begins_append q r in absurd cc)

pub elsewhere_split_all : (ps : List (List Quarter)) (t : Plot) → StaysElsewhere ps t (split_all ps t)
elsewhere_split_all [] t q a = refl
elsewhere_split_all (p ∷ ps) t q a =
    elsewhere_split_all ps (split p t) q (λ x i. a x (inr i)) ∙ elsewhere_split p q t (a p (inl refl)).0

pub elsewhere_swapped : (xs : List Piece) (t : Plot) → StaysElsewhere (paths xs) t (swapped xs t)
elsewhere_swapped [] t q a = refl
elsewhere_swapped (x ∷ xs) t q a =
    elsewhere_swapped xs (graft x.path x.plot t) q (λ p i. a p (inr i))
    ∙ elsewhere_graft x.path q x.plot t (a x.path (inl refl)).1 (a x.path (inl refl)).0

-- what the rest of some splits leaves elsewhere after the first, all of them leave
pub elsewhere_more : {A E : Type 0} (r : Result A E) (p : List Quarter) (ps qs : List (List Quarter)) (t u v : Plot) → qs ≡ p ∷ ps
    → u ≡ split p t → OnErr r (StaysElsewhere ps u v) → OnErr r (StaysElsewhere qs t v)
elsewhere_more (Ok x) p ps qs t u v l e h = tt
elsewhere_more (Err x) p ps qs t u v l e h = λ q a.
    let short = subst (Apart q) l a in
    h q (λ y i. short y (inr i)) ∙ ap (plot_at q) e ∙ elsewhere_split p q t (short p (inl refl)).0

-- a tidy plot that was changed at some paths alone is tidy again once it is tidied there
pub tidied_where_written : (ps : List (List Quarter)) (t u : Plot) → is_tidy t ≡ true → StaysElsewhere ps t u
    → is_tidy (tidied_all ps u) ≡ true
tidied_where_written ps t u h stays =
    tidy_from (tidied_all ps u)
    (λ q. tidied_all_apart (λ s. Unit {0}) ps u (λ r v a. ap is_joinable (stays r a) ∙ nowhere t h r) q tt)

-- ---- joined but at some paths

-- a tidy plot is joined everywhere
pub joined_but_none : (puts : List (List (List Quarter))) (t : Plot) → is_tidy t ≡ true → JoinedBut puts t
joined_but_none puts t h q a = nowhere t h q

all_more : (q : List Quarter) (ps : List (List Quarter)) (puts : List (List (List Quarter))) → Apart q ps → ApartFromAll q puts
    → ApartFromAll q (ps ∷ puts)
all_more q ps puts a b qs i = elim i [ inl e ↦ subst (Apart q) (sym e) a | inr j ↦ b qs j ]

-- tidied at the paths of the first list it is joined but at those of the others
pub joined_but_tidied : (ps : List (List Quarter)) (puts : List (List (List Quarter))) (t : Plot) → JoinedBut (ps ∷ puts) t
    → JoinedBut puts (tidied_all ps t)
joined_but_tidied ps puts t h =
    tidied_all_apart (λ s. ApartFromAll s puts) ps t (λ s b a. h s (all_more s ps puts a b))

pub joined_but_tidy : (t : Plot) → JoinedBut [] t → is_tidy t ≡ true
joined_but_tidy t h = tidy_from t (λ q. h q (λ ps i. absurd i))
