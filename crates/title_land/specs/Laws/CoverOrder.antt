-- A cover lists its nodes in order.
use Rattle.std.proofs.Common.{◌≡◌, ℕ, zero, suc, ◌-◌, Bool, true, ◌&&◌, inl, inr, List, [], ◌∷◌, ◌++◌, map, refl, sym, ap}
use Rattle.std.{proofs.{Common.{subst, ◌∙◌, arith, append_assoc}, lemmas.List.{reverse-append}}, specs.{Prelude.{reverse}, List.{list_all}}}
use Rattle.std.proofs.lemmas.Bool.{and_from, or_right, cases_Bool}
use Rattle.title_land.specs.{declared.{survey.Section.{Section}, rectangle.Quarter.{Quarter}, node.Node.{Node}}, Survey.{same_section}}
use Rattle.title_land.specs.{declared.rectangle.Quarter.TheVariants.{Northeast, Northwest, Southwest, Southeast}, Grids.{fills}}
use Rattle.title_land.specs.{Nodes.{square, same_quarter}, Covers.{cover_below, node_at}, Laws.SameLand.{same_section-self}}
use Rattle.title_land.specs.{CoverSets.{quarter_before, path_before, comes_before, are_in_order}, Laws.SameNode.{same_quarter-self}}
use Rattle.title_land.specs.Laws.{Members.{In, in_append, in_mapped}, CoverLaws.{cover_filled, cover_cell, cover_split}}
use Rattle.title_land.specs.Laws.CoverCells.{cover_found}

-- each element stands before all after it
abbrev pub Ordered : {X : Type 0} → (X → X → Bool) → List X → Type 0
Ordered before [] = Unit {0}
Ordered before (x ∷ xs) = ((y : _) → In y xs → before x y ≡ true) × Ordered before xs

ordered_append : {X : Type 0} (before : X → X → Bool) (xs ys : List X) → Ordered before xs → Ordered before ys
    → ((x y : X) → In x xs → In y ys → before x y ≡ true) → Ordered before (xs ++ ys)
ordered_append before [] ys f g h = g
ordered_append before (x ∷ xs) ys f g h = (
  λ y i. elim (in_append y xs ys i) [
    | inl j ↦ f.0 y j
    | inr j ↦ h x y (inl refl) j
  ],
  ordered_append before xs ys f.1 g (λ a b i j. h a b (inr i) j),
)

ordered_four : {X : Type 0} (before : X → X → Bool) (a b c d : List X) → Ordered before a → Ordered before b → Ordered before c
    → Ordered before d
    → ((x y : X) → In x a → In y b → before x y ≡ true) → ((x y : X) → In x a → In y c → before x y ≡ true)
    → ((x y : X) → In x a → In y d → before x y ≡ true)
    → ((x y : X) → In x b → In y c → before x y ≡ true) → ((x y : X) → In x b → In y d → before x y ≡ true)
    → ((x y : X) → In x c → In y d → before x y ≡ true)
    → Ordered before (a ++ b ++ c ++ d)
ordered_four before a b c d oa ob oc od ab ac ad bc bd cd =
    ordered_append before (a ++ b ++ c) d
    (ordered_append before (a ++ b) c (ordered_append before a b oa ob ab) oc
    (λ x y i j. elim (in_append x a b i) [ inl k ↦ ac x y k j | inr k ↦ bc x y k j ]))
    od
    (λ x y i j. elim (in_append x (a ++ b) c i) [
      | inl k ↦ elim (in_append x a b k) [ inl m ↦ ad x y m j | inr m ↦ bd x y m j ]
      | inr k ↦ cd x y k j
    ])

-- the order of squares by their quarters, the innermost first
abbrev pub inner_before : List Quarter → List Quarter → Bool
inner_before p q = path_before (reverse p) (reverse q)

-- squares in two quarters of a square are ordered as the quarters are
pub branch_before : (r p q : List Quarter) (x y : Quarter) → quarter_before x y ≡ true → path_before (r ++ x ∷ p) (r ++ y ∷ q) ≡ true
branch_before [] p q x y e = rw e refl
branch_before (a ∷ r) p q x y e =
    or_right (quarter_before a a) (same_quarter a a && path_before (r ++ x ∷ p) (r ++ y ∷ q))
    (and_from (same_quarter a a) (path_before (r ++ x ∷ p) (r ++ y ∷ q)) (same_quarter-self a) (branch_before r p q x y e))

pub reverse_at : (p q : List Quarter) (x : Quarter) → reverse (p ++ (x ∷ q)) ≡ reverse q ++ (x ∷ reverse p)
reverse_at p q x = reverse-append p (x ∷ q) ∙ ap (λ (z : List Quarter). z ++ reverse p) (reverse-append (x ∷ []) q)
    ∙ append_assoc (reverse q) (x ∷ []) (reverse p)

quarters_before : (d : ℕ) (has : ℕ → ℕ → Bool) (levels : ℕ) (q : List Quarter) (x y : Quarter) → quarter_before x y ≡ true
    → (a b : List Quarter) → In a (cover_below d has levels (x ∷ q)) → In b (cover_below d has levels (y ∷ q)) → inner_before a b ≡ true
quarters_before d has levels q x y e a b i j =
    let f = cover_found d has levels (x ∷ q) a i in
    let g = cover_found d has levels (y ∷ q) b j in
    let k = branch_before (reverse q) (reverse f.inner) (reverse g.inner) x y e in
    ap (λ (z : List Quarter). path_before z (reverse b)) (ap (λ (p : List Quarter). reverse p) f.path_is ∙ reverse_at f.inner q x)
    ∙ ap (λ (z : List Quarter). path_before (reverse q ++ (x ∷ reverse f.inner)) z) (ap (λ (p : List Quarter). reverse p) g.path_is
    ∙ reverse_at g.inner q y) ∙ k

pub ordered_one : (p : List Quarter) → Ordered inner_before (p ∷ [])
ordered_one p = (λ y i. absurd i, tt)

pub cover_ordered : (d : ℕ) (has : ℕ → ℕ → Bool) (levels : ℕ) (q : List Quarter) → Ordered inner_before (cover_below d has levels q)
cover_ordered d has zero q = elim (cases_Bool (fills has (square d q))) [
  | inl e ↦ subst (λ (ps : List (List Quarter)). Ordered inner_before ps) (sym (cover_filled d has zero q e)) (ordered_one q)
  | inr e ↦ subst (λ (ps : List (List Quarter)). Ordered inner_before ps) (sym (cover_cell d has zero q e (omega arith))) tt
]
cover_ordered d has (suc levels) q = elim (cases_Bool (fills has (square d q))) [
  | inl e ↦ subst (λ (ps : List (List Quarter)). Ordered inner_before ps) (sym (cover_filled d has (suc levels) q e)) (ordered_one q)
  | inr e ↦
      let f : (suc levels - 1) ≡ levels = omega arith in
      let k = rw f at (cover_split d has (suc levels) q e (omega arith)) in
      let part = λ (x : Quarter). cover_ordered d has levels (x ∷ q) in
      let two = λ (x y : Quarter) (h : quarter_before x y ≡ true). quarters_before d has levels q x y h in
      subst (λ (ps : List (List Quarter)). Ordered inner_before ps) (sym k)
      (ordered_four inner_before _ _ _ _ (part Northeast) (part Northwest) (part Southwest) (part Southeast)
      (two Northeast Northwest refl) (two Northeast Southwest refl) (two Northeast Southeast refl) (two Northwest Southwest refl)
      (two Northwest Southeast refl) (two Southwest Southeast refl))
]

ordered_map : {X Y : Type 0} (f : X → Y) (before : X → X → Bool) (before2 : Y → Y → Bool) (xs : List X)
    → ((a b : X) → In a xs → In b xs → before a b ≡ true → before2 (f a) (f b) ≡ true) → Ordered before xs → Ordered before2 (map f xs)
ordered_map f before before2 [] h o = tt
ordered_map f before before2 (x ∷ xs) h o = (
  λ y i. let k = in_mapped f y xs i in ap (before2 (f x)) k.2 ∙ h x k.0 (inl refl) (inr k.1) (o.0 k.0 k.1),
  ordered_map f before before2 xs (λ a b i j. h a b (inr i) (inr j)) o.1,
)

all_from_in : (n : Node) (nodes : List Node) → ((m : Node) → In m nodes → comes_before n m ≡ true) → list_all (comes_before n) nodes ≡ true
all_from_in n [] f = refl
all_from_in n (m ∷ nodes) f = and_from (comes_before n m) (list_all (comes_before n) nodes) (f m (inl refl))
    (all_from_in n nodes (λ x i. f x (inr i)))

in_order_from : (nodes : List Node) → Ordered comes_before nodes → are_in_order nodes ≡ true
in_order_from [] o = refl
in_order_from (n ∷ nodes) o = and_from (list_all (comes_before n) nodes) (are_in_order nodes) (all_from_in n nodes o.0)
    (in_order_from nodes o.1)

node_before : (s : Section) (a b : List Quarter) → inner_before a b ≡ true → comes_before (node_at s a) (node_at s b) ≡ true
node_before s a b h = and_from (same_section s s) (inner_before a b) (same_section-self s) h

pub section_in_order : (d : ℕ) (s : Section) (has : ℕ → ℕ → Bool) → are_in_order (map (node_at s) (cover_below d has d [])) ≡ true
section_in_order d s has =
    in_order_from (map (node_at s) (cover_below d has d []))
    (ordered_map (node_at s) inner_before comes_before (cover_below d has d []) (λ a b i j h. node_before s a b h)
    (cover_ordered d has d []))
