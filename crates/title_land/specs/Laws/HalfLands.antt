-- A half of a square as a land: its cells, and a cover of its two squares in order.
use Rattle.std.proofs.Common.{◌≡◌, ℕ, suc, ◌-◌, ◌<◌, ◌≤◌, Bool, true, false, ◌&&◌, ◌⊎◌, inl, inr, List, [], ◌∷◌, ◌++◌}
use Rattle.std.{proofs.{Common.{map, length, refl, sym, ap, subst, ◌∙◌, arith}, lemmas.Bool.{cases_lt, both_ways}}, specs.Prelude.{reverse}}
use Rattle.std.proofs.lemmas.List.{append-nil}
use Rattle.title_land.specs.declared.{survey.{Section.{Section}, Cell.{Cell}}, rectangle.Rectangle.{Rectangle}}
use Rattle.title_land.specs.declared.rectangle.{Half.{Half, TheVariants.{North, South, East, West}}, Quarter.{Quarter}}
use Rattle.title_land.specs.declared.rectangle.Quarter.TheVariants.{Northeast, Northwest, Southwest, Southeast}
use Rattle.title_land.specs.{Survey.{same_section}, Rectangles.{half_of, quarter_of, first_quarter, second_quarter, holds, InSection}}
use Rattle.title_land.specs.{Nodes.{square, same_quarter}, Grids.{grid_has, grid_of, fills}, Covers.{cover_below, node_at}}
use Rattle.title_land.specs.{CoverSets.{quarter_before, path_before}, Lands.{has, cover_of, half_land, half_nodes, IsLand}}
use Rattle.title_land.specs.Laws.{Members.{In}, Filling.{fills_at, fills_from}, CoverCells.{in_a_quarter, cover_found, cover_complete}}
use Rattle.title_land.specs.Laws.Squares.{Inside, inside, holds_from, quarter_inside, quarters_apart, nested, square_inside, sized}
use Rattle.title_land.specs.Laws.{Squares.{has_corner}, CoverOrder.{Ordered, inner_before, reverse_at, cover_ordered}}
use Rattle.title_land.specs.Laws.NodeLands.{square_in_section, rectangle_has, is_grid-grid_of}
use Rattle.title_land.specs.Laws.NodeLands.{quarter_after, same_self, path_after, alone_in}

-- ---- the cells of a half

pub half_in_section : (d : ℕ) (h : Half) (r : Rectangle) → InSection d r → InSection d (half_of h r)
half_in_section d North r i = let high = i.0 in (omega (arith, high), i.1)
half_in_section d South r i = let high = i.0 in (omega (arith, high), i.1)
half_in_section d East r i = let wide = i.1 in (i.0, omega (arith, wide))
half_in_section d West r i = let wide = i.1 in (i.0, omega (arith, wide))

-- the set of a half's cells has those that the half holds
half_has : (d : ℕ) (h : Half) (w : List Quarter) (row column : ℕ) → length w ≤ d
    → grid_has (grid_of d (holds (half_of h (square d w)))) row column ≡ holds (half_of h (square d w)) row column
half_has d h w row column l =
    rectangle_has d (half_of h (square d w)) row column (half_in_section d h (square d w) (square_in_section d w l))

-- the cells of a half are those of its land
pub has-half_land : (d : ℕ) (s : Section) (h : Half) (w : List Quarter) (c : Cell) → length w ≤ d
    → has (half_land d s h w) c ≡ (same_section s c.section && holds (half_of h (square d w)) c.row c.column)
unfolding has
has-half_land d s h w c l = ap (λ (b : Bool). same_section s c.section && b) (half_has d h w c.row c.column l)

pub is_land-half_land : (d : ℕ) (s : Section) (h : Half) (w : List Quarter) → IsLand d (half_land d s h w)
is_land-half_land d s h w = is_grid-grid_of d (holds (half_of h (square d w)))

-- ---- its two quarters

-- the quarter is one of the half's two
abbrev IsOf : Half → Quarter → Type 0
IsOf h x = (x ≡ first_quarter h) ⊎ (x ≡ second_quarter h)

first_within : (h : Half) (r : Rectangle) (row column : ℕ) → Inside (quarter_of (first_quarter h) r) row column
    → Inside (half_of h r) row column
first_within North r row column i =
    record { below = omega (arith, i.below); above = omega (arith, i.above); right = omega (arith, i.right); left = omega (arith, i.left) }
first_within South r row column i =
    record { below = omega (arith, i.below); above = omega (arith, i.above); right = omega (arith, i.right); left = omega (arith, i.left) }
first_within East r row column i =
    record { below = omega (arith, i.below); above = omega (arith, i.above); right = omega (arith, i.right); left = omega (arith, i.left) }
first_within West r row column i =
    record { below = omega (arith, i.below); above = omega (arith, i.above); right = omega (arith, i.right); left = omega (arith, i.left) }

second_within : (h : Half) (r : Rectangle) (row column : ℕ) → Inside (quarter_of (second_quarter h) r) row column
    → Inside (half_of h r) row column
second_within North r row column i =
    record { below = omega (arith, i.below); above = omega (arith, i.above); right = omega (arith, i.right); left = omega (arith, i.left) }
second_within South r row column i =
    record { below = omega (arith, i.below); above = omega (arith, i.above); right = omega (arith, i.right); left = omega (arith, i.left) }
second_within East r row column i =
    record { below = omega (arith, i.below); above = omega (arith, i.above); right = omega (arith, i.right); left = omega (arith, i.left) }
second_within West r row column i =
    record { below = omega (arith, i.below); above = omega (arith, i.above); right = omega (arith, i.right); left = omega (arith, i.left) }

-- a cell of one of them lies in the half
within_half : (h : Half) (x : Quarter) (r : Rectangle) (row column : ℕ) → IsOf h x → Inside (quarter_of x r) row column
    → Inside (half_of h r) row column
within_half h x r row column k i = elim k [
  | inl e ↦ first_within h r row column (subst (λ (y : Quarter). Inside (quarter_of y r) row column) e i)
  | inr e ↦ second_within h r row column (subst (λ (y : Quarter). Inside (quarter_of y r) row column) e i)
]

-- the half lies in the rectangle
half_inside : (h : Half) (r : Rectangle) (row column : ℕ) → Inside (half_of h r) row column → Inside r row column
half_inside North r row column i =
    record { below = omega (arith, i.below); above = omega (arith, i.above); right = omega (arith, i.right); left = omega (arith, i.left) }
half_inside South r row column i =
    record { below = omega (arith, i.below); above = omega (arith, i.above); right = omega (arith, i.right); left = omega (arith, i.left) }
half_inside East r row column i =
    record { below = omega (arith, i.below); above = omega (arith, i.above); right = omega (arith, i.right); left = omega (arith, i.left) }
half_inside West r row column i =
    record { below = omega (arith, i.below); above = omega (arith, i.above); right = omega (arith, i.right); left = omega (arith, i.left) }

-- a quarter that has a cell of the half is one of them
is_of : (h : Half) (x : Quarter) (r : Rectangle) (row column : ℕ) → Inside (half_of h r) row column → Inside (quarter_of x r) row column
    → IsOf h x
is_of North Northeast r row column i j = inl refl
is_of North Northwest r row column i j = inr refl
is_of North Southwest r row column i j = absurd (omega (arith, i.above, j.below))
is_of North Southeast r row column i j = absurd (omega (arith, i.above, j.below))
is_of South Northeast r row column i j = absurd (omega (arith, i.below, j.above))
is_of South Northwest r row column i j = absurd (omega (arith, i.below, j.above))
is_of South Southwest r row column i j = inl refl
is_of South Southeast r row column i j = inr refl
is_of East Northeast r row column i j = inl refl
is_of East Northwest r row column i j = absurd (omega (arith, i.right, j.left))
is_of East Southwest r row column i j = absurd (omega (arith, i.right, j.left))
is_of East Southeast r row column i j = inr refl
is_of West Northeast r row column i j = absurd (omega (arith, i.left, j.right))
is_of West Northwest r row column i j = inl refl
is_of West Southwest r row column i j = inr refl
is_of West Southeast r row column i j = absurd (omega (arith, i.left, j.right))

-- a quarter that isn't one of them
abbrev outer_quarter : Half → Quarter
outer_quarter North = Southeast
outer_quarter South = Northeast
outer_quarter East = Northwest
outer_quarter West = Northeast

outer_not : (h : Half) → IsOf h (outer_quarter h) → ⊥
outer_not North (inl e) = cc
outer_not North (inr e) = cc
outer_not South (inl e) = cc
outer_not South (inr e) = cc
outer_not East (inl e) = cc
outer_not East (inr e) = cc
outer_not West (inl e) = cc
outer_not West (inr e) = cc

-- the second comes behind the first
second_late : (h : Half) → quarter_before (second_quarter h) (first_quarter h) ≡ false
second_late North = refl
second_late South = refl
second_late East = refl
second_late West = refl

second_other : (h : Half) → same_quarter (second_quarter h) (first_quarter h) ≡ false
second_other North = refl
second_other South = refl
second_other East = refl
second_other West = refl

branch_after : (r p q : List Quarter) (x y : Quarter) → quarter_before x y ≡ false → same_quarter x y ≡ false
    → path_before (r ++ x ∷ p) (r ++ y ∷ q) ≡ false
branch_after [] p q x y e f = rw (e, f) refl
branch_after (a ∷ r) p q x y e f = rw (quarter_after a, same_self a) (branch_after r p q x y e f)

abbrev first_in : Half → List Quarter → List Quarter
first_in h w = first_quarter h ∷ w

abbrev second_in : Half → List Quarter → List Quarter
second_in h w = second_quarter h ∷ w

second_after : (h : Half) (w : List Quarter) → inner_before (second_in h w) (first_in h w) ≡ false
second_after h w =
    ap (λ (z : List Quarter). path_before z (reverse (first_in h w))) (reverse_at [] w (second_quarter h))
    ∙ ap (λ (z : List Quarter). path_before (reverse w ++ (second_quarter h ∷ reverse [])) z) (reverse_at [] w (first_quarter h))
    ∙ branch_after (reverse w) (reverse []) (reverse []) (second_quarter h) (first_quarter h) (second_late h) (second_other h)

two_squares : (h : Half) (w : List Quarter) → first_in h w ≡ second_in h w → ⊥
two_squares North w e = cc
two_squares South w e = cc
two_squares East w e = cc
two_squares West w e = cc

-- ---- the cover

-- a list in order whose members are two squares, of which the second doesn't come before the first, is these two
two_in : (v w : List Quarter) (xs : List (List Quarter)) → In v xs → In w xs → ((p : List Quarter) → In p xs → (p ≡ v) ⊎ (p ≡ w))
    → inner_before w v ≡ false → (v ≡ w → ⊥) → Ordered inner_before xs → xs ≡ v ∷ w ∷ []
two_in v w [] i j f b apart o = absurd i
two_in v w (x ∷ xs) i j f b apart o =
    let e : x ≡ v = elim (f x (inl refl)) [
      | inl k ↦ k
      | inr k ↦ elim i [
        | inl m ↦ absurd (apart (m ∙ k))
        | inr m ↦ absurd (both_ways (inner_before w v) b (subst (λ (z : List Quarter). inner_before z v ≡ true) k (o.0 v m)))
      ]
    ] in
    let there : In w xs = elim j [
      | inl m ↦ absurd (apart (sym e ∙ sym m))
      | inr m ↦ m
    ] in
    let rest = alone_in w xs there (λ p m. elim (f p (inr m)) [
      | inl k ↦ absurd (both_ways (inner_before v v) (path_after (reverse v)) (subst (λ (z : List Quarter). inner_before z v ≡ true) e
          (subst (λ (z : List Quarter). inner_before x z ≡ true) k (o.0 p m))))
      | inr k ↦ k
    ]) o.1 in
    ap (λ (z : List Quarter). z ∷ xs) e ∙ ap (λ (zs : List (List Quarter)). v ∷ zs) rest

abbrev half_cells : ℕ → Half → List Quarter → ℕ → ℕ → Bool
half_cells d h w = grid_has (grid_of d (holds (half_of h (square d w))))

-- a cell of the set lies in the half
cell_in_half : (d : ℕ) (h : Half) (w : List Quarter) (row column : ℕ) → length w < d → half_cells d h w row column ≡ true
    → Inside (half_of h (square d w)) row column
cell_in_half d h w row column l e =
    let short : length w ≤ d = omega arith in
    inside (half_of h (square d w)) row column (sym (half_has d h w row column short) ∙ e)

-- and in one of its two quarters
quarter_of_cell : (d : ℕ) (h : Half) (w : List Quarter) (row column : ℕ) → length w < d → half_cells d h w row column ≡ true
    → (x : Quarter) × IsOf h x × Inside (square d (x ∷ w)) row column
quarter_of_cell d h w row column l e =
    let k = d - suc (length w) in
    let i = cell_in_half d h w row column l e in
    let r = square d w in
    let x = in_a_quarter d k r row column (sized d (suc k) w (omega arith)) (half_inside h r row column i) in
    (x.0, is_of h x.0 r row column i x.1, x.1)

-- the set has the cells of these quarters
cell_of_quarter : (d : ℕ) (h : Half) (w : List Quarter) (x : Quarter) (row column : ℕ) → length w < d → IsOf h x
    → Inside (square d (x ∷ w)) row column → half_cells d h w row column ≡ true
cell_of_quarter d h w x row column l k i =
    let short : length w ≤ d = omega arith in
    half_has d h w row column short
    ∙ holds_from (half_of h (square d w)) row column (within_half h x (square d w) row column k i)

-- the half doesn't fill the square, nor one above it
not_above : (d : ℕ) (h : Half) (w p r : List Quarter) → length w < d → w ≡ r ++ p → fills (half_cells d h w) (square d p) ≡ true → ⊥
not_above d h w p r l e f =
    let q = outer_quarter h ∷ w in
    let c = square d q in
    let corner = has_corner d (d - suc (length w)) q (omega arith) in
    let in_w = quarter_inside (outer_quarter h) (square d w) c.top c.left corner in
    let in_p = square_inside d r p c.top c.left (subst (λ (z : List Quarter). Inside (square d z) c.top c.left) e in_w) in
    let held = cell_in_half d h w c.top c.left l (fills_at (half_cells d h w) (square d p) c.top c.left f in_p) in
    outer_not h (is_of h (outer_quarter h) (square d w) c.top c.left held corner)

-- a square of the cover of a half's cells is one of its two
only_half : (d : ℕ) (h : Half) (w p : List Quarter) → length w < d → In p (cover_below d (half_cells d h w) d [])
    → (p ≡ first_in h w) ⊎ (p ≡ second_in h w)
only_half d h w p l i =
    let f = cover_found d (half_cells d h w) d [] p i in
    let long = f.long in
    let short : length p ≤ d = omega arith in
    let r = square d p in
    let corner = has_corner d (d - length p) p (omega arith) in
    let x = quarter_of_cell d h w r.top r.left l (fills_at (half_cells d h w) r r.top r.left f.filled corner) in
    elim (cases_lt (length p) (suc (length w))) [
      | inl m ↦
          let n = nested d (x.0 ∷ w) p r.top r.left (omega arith) x.2 corner in
          absurd (smaller x.0 n.within n.path_is f.filled m)
      | inr m ↦
          let n = nested d p (x.0 ∷ w) r.top r.left m corner x.2 in
          larger x.0 x.1 n.within n.path_is f.parent
    ]
  where
    smaller : (x : Quarter) (r : List Quarter) → x ∷ w ≡ r ++ p → fills (half_cells d h w) (square d p) ≡ true
        → length p < suc (length w) → ⊥
    smaller x [] e f m = let n : suc (length w) ≡ length p = ap (λ (z : List Quarter). length z) e in omega arith
    smaller x (a ∷ r) e f m =
        let g : x ∷ w ≡ a ∷ (r ++ p) = e in
        let rest : w ≡ r ++ p = cc in
        not_above d h w p r l rest f

    larger : (x : Quarter) → IsOf h x → (r : List Quarter) → p ≡ r ++ (x ∷ w) → ((p ≡ []) ⊎
        ((a : Quarter) × (rest : List Quarter) × (p ≡ a ∷ rest) × (fills (half_cells d h w) (square d rest) ≡ false)))
        → (p ≡ first_in h w) ⊎ (p ≡ second_in h w)
    larger x k [] e f = elim k [
      | inl m ↦ inl (e ∙ ap (λ (z : Quarter). z ∷ w) m)
      | inr m ↦ inr (e ∙ ap (λ (z : Quarter). z ∷ w) m)
    ]
    larger x k (a ∷ r) e f = elim f [
      | inl z ↦ let g : a ∷ (r ++ (x ∷ w)) ≡ [] = sym e ∙ z in absurd cc
      | inr z ↦
          let g : a ∷ (r ++ (x ∷ w)) ≡ z.0 ∷ z.1 = sym e ∙ z.2 in
          let rest : r ++ (x ∷ w) ≡ z.1 = cc in
          absurd (both_ways (fills (half_cells d h w) (square d z.1))
          z.3 (fills_from (half_cells d h w) (square d z.1) (λ row column i.
          cell_of_quarter d h w x row column l k (square_inside d r (x ∷ w) row column
          (subst (λ (y : List Quarter). Inside (square d y) row column) (sym rest) i)))))
    ]

-- both are squares of that cover
half_listed : (d : ℕ) (h : Half) (w : List Quarter) (x : Quarter) → length w < d → IsOf h x
    → In (x ∷ w) (cover_below d (half_cells d h w) d [])
half_listed d h w x l k =
    let r = square d (x ∷ w) in
    let corner = has_corner d (d - suc (length w)) (x ∷ w) (omega arith) in
    let whole = square_inside d (x ∷ w) [] r.top r.left
    (subst (λ (z : List Quarter). Inside (square d z) r.top r.left) (sym (append-nil (x ∷ w))) corner) in
    let there = cell_of_quarter d h w x r.top r.left l k corner in
    let m = cover_complete d (half_cells d h w) d [] r.top r.left (omega arith) whole there in
    elim (only_half d h w m.0 l m.1) [
      | inl e ↦ at_quarter r.top r.left m.0 (first_quarter h) corner m.2 e m.1
      | inr e ↦ at_quarter r.top r.left m.0 (second_quarter h) corner m.2 e m.1
    ]
  where
    at_quarter : (row column : ℕ) (p : List Quarter) (y : Quarter) → Inside (square d (x ∷ w)) row column → Inside (square d p) row column
        → p ≡ y ∷ w → In p (cover_below d (half_cells d h w) d []) → In (x ∷ w) (cover_below d (half_cells d h w) d [])
    at_quarter row column p y i j e m =
        let in_y = subst (λ (z : List Quarter). Inside (square d z) row column) e j in
        let same = quarters_apart y x (square d w) row column in_y i in
        subst (λ (z : List Quarter). In z (cover_below d (half_cells d h w) d [])) (e ∙ ap (λ (z : Quarter). z ∷ w) same) m

-- the land of a half has a cover of its two squares, in order
pub cover_of-half_land : (d : ℕ) (s : Section) (h : Half) (w : List Quarter) → length w < d
    → cover_of d (half_land d s h w) ≡ half_nodes s h w
unfolding cover_of
cover_of-half_land d s h w l =
    ap (map (node_at s))
    (two_in (first_in h w) (second_in h w) (cover_below d (half_cells d h w) d []) (half_listed d h w (first_quarter h) l (inl refl))
    (half_listed d h w (second_quarter h) l (inr refl)) (λ p i. only_half d h w p l i) (second_after h w) (two_squares h w)
    (cover_ordered d (half_cells d h w) d []))
