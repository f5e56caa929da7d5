-- The cells of a cover are those of its land.
use Rattle.std.proofs.Common.{◌≡◌, ℕ, zero, suc, ◌+◌, ◌-◌, ◌*◌, ◌/◌, ◌<◌, ◌≤◌, ◌^◌, Bool, true, false, ◌⊎◌, inl, inr, List, [], ◌∷◌, ◌++◌}
use Rattle.std.proofs.{Common.{length, refl, sym, ap, subst, ◌∙◌, arith, append_assoc}, lemmas.Bool.{both_ways, cases_Bool, cases_lt}}
use Rattle.title_land.specs.{declared.rectangle.Quarter.{Quarter, TheVariants.{Northeast, Northwest, Southwest, Southeast}}, Nodes.{square}}
use Rattle.title_land.specs.{declared.{rectangle.Rectangle.{Rectangle}, grid.Grid.{Grid}}, Rectangles.{quarter_of, holds}, Survey.{side}}
use Rattle.title_land.specs.{Grids.{fills, grid_has, grid_of, grids_meet}, Laws.{GridLaws.{grid_has-grid_of}, GridSharing.{grids_from}}}
use Rattle.title_land.specs.{Covers.{cover_below}, Laws.{CoverLaws.{cover_filled, cover_cell, cover_split}, Filling.{fills_at, fills_from}}}
use Rattle.title_land.specs.Laws.Squares.{Inside, Sized, sized, has_corner, holds_from, square_inside}
use Rattle.title_land.specs.Laws.Members.{In, in_left, in_right, in_append}

-- a list in four pieces
in_four : (p : List Quarter) (a b c d : List (List Quarter)) → In p (a ++ b ++ c ++ d) → In p a ⊎ (In p b ⊎ (In p c ⊎ In p d))
in_four p a b c d i = elim (in_append p (a ++ b ++ c) d i) [
  | inl j ↦ elim (in_append p (a ++ b) c j) [
    | inl k ↦ elim (in_append p a b k) [ inl m ↦ inl m | inr m ↦ inr (inl m) ]
    | inr k ↦ inr (inr (inl k))
  ]
  | inr j ↦ inr (inr (inr j))
]

-- a square of a cover that isn't the whole lies in one of the quarters
pub cover_part : (d : ℕ) (has : ℕ → ℕ → Bool) (levels : ℕ) (q p : List Quarter) → fills has (square d q) ≡ false
    → In p (cover_below d has (suc levels) q) → (x : Quarter) × In p (cover_below d has levels (x ∷ q))
cover_part d has levels q p e i =
    let f : (suc levels - 1) ≡ levels = omega arith in
    let k = rw f at (cover_split d has (suc levels) q e (omega arith)) in
    let j = subst (λ (ps : List (List Quarter)). In p ps) k i in
    elim (in_four p _ _ _ _ j) [
      | inl m ↦ (Northeast, m)
      | inr m ↦ elim m [
        | inl n ↦ (Northwest, n)
        | inr n ↦ elim n [
          | inl o ↦ (Southwest, o)
          | inr o ↦ (Southeast, o)
        ]
      ]
    ]

quarter_in : (x : Quarter) (p : List Quarter) (f : Quarter → List (List Quarter)) → In p (f x)
    → In p (f Northeast ++ f Northwest ++ f Southwest ++ f Southeast)
quarter_in Northeast p f i = in_left p (f Northeast ++ f Northwest ++ f Southwest) (f Southeast)
    (in_left p (f Northeast ++ f Northwest) (f Southwest) (in_left p (f Northeast) (f Northwest) i))
quarter_in Northwest p f i = in_left p (f Northeast ++ f Northwest ++ f Southwest) (f Southeast)
    (in_left p (f Northeast ++ f Northwest) (f Southwest) (in_right p (f Northeast) (f Northwest) i))
quarter_in Southwest p f i = in_left p (f Northeast ++ f Northwest ++ f Southwest) (f Southeast)
    (in_right p (f Northeast ++ f Northwest) (f Southwest) i)
quarter_in Southeast p f i = in_right p (f Northeast ++ f Northwest ++ f Southwest) (f Southeast) i

pub cover_part_in : (d : ℕ) (has : ℕ → ℕ → Bool) (levels : ℕ) (q p : List Quarter) → fills has (square d q) ≡ false → (x : Quarter)
    → In p (cover_below d has levels (x ∷ q)) → In p (cover_below d has (suc levels) q)
cover_part_in d has levels q p e x i =
    let f : (suc levels - 1) ≡ levels = omega arith in
    let k = rw f at (cover_split d has (suc levels) q e (omega arith)) in
    subst (λ (ps : List (List Quarter)). In p ps) (sym k) (quarter_in x p (λ (y : Quarter). cover_below d has levels (y ∷ q)) i)

-- what is known of a square of the cover within a square
pub record Found (d : ℕ) (has : ℕ → ℕ → Bool) (levels : ℕ) (q p : List Quarter) : Type 0 where
  pub filled : fills has (square d p) ≡ true
  pub long : length p ≤ levels + length q
  pub inner : List Quarter
  pub path_is : p ≡ inner ++ q
  pub parent : (p ≡ q) ⊎ ((a : Quarter) × (rest : List Quarter) × (p ≡ a ∷ rest) × (fills has (square d rest) ≡ false))

found_whole : (d : ℕ) (has : ℕ → ℕ → Bool) (levels : ℕ) (q p : List Quarter) → fills has (square d q) ≡ true → p ≡ q
    → Found d has levels q p
found_whole d has levels q p e f = record {
  filled = ap (λ (x : List Quarter). fills has (square d x)) f ∙ e;
  long = let g : length p ≡ length q = ap length f in omega arith;
  inner = [];
  path_is = f;
  parent = inl f;
}

found_part : (d : ℕ) (has : ℕ → ℕ → Bool) (levels : ℕ) (q p : List Quarter) (x : Quarter) → fills has (square d q) ≡ false
    → Found d has levels (x ∷ q) p → Found d has (suc levels) q p
found_part d has levels q p x e f = record {
  filled = f.filled;
  long = let k = f.long in omega arith;
  inner = f.inner ++ x ∷ [];
  path_is = f.path_is ∙ sym (append_assoc f.inner (x ∷ []) q);
  parent = elim f.parent [
    | inl g ↦ inr (x, q, g, e)
    | inr g ↦ inr g
  ];
}

pub cover_found : (d : ℕ) (has : ℕ → ℕ → Bool) (levels : ℕ) (q p : List Quarter) → In p (cover_below d has levels q)
    → Found d has levels q p
cover_found d has zero q p i = elim (cases_Bool (fills has (square d q))) [
  | inl e ↦ elim (subst (λ (ps : List (List Quarter)). In p ps) (cover_filled d has zero q e) i) [
    | inl f ↦ found_whole d has zero q p e f
    | inr z ↦ absurd z
  ]
  | inr e ↦ absurd (subst (λ (ps : List (List Quarter)). In p ps) (cover_cell d has zero q e (omega arith)) i)
]
cover_found d has (suc levels) q p i = elim (cases_Bool (fills has (square d q))) [
  | inl e ↦ elim (subst (λ (ps : List (List Quarter)). In p ps) (cover_filled d has (suc levels) q e) i) [
    | inl f ↦ found_whole d has (suc levels) q p e f
    | inr z ↦ absurd z
  ]
  | inr e ↦ let k = cover_part d has levels q p e i in found_part d has levels q p k.0 e (cover_found d has levels (k.0 ∷ q) p k.1)
]

-- a cell of a square lies in one of its quarters
pub in_a_quarter : (d levels : ℕ) (r : Rectangle) (row column : ℕ) → Sized d (suc levels) r → Inside r row column
    → (x : Quarter) × Inside (quarter_of x r) row column
in_a_quarter d levels r row column s i =
    let h = s.height_is in
    let w = s.width_is in
    let e : 2 ^ suc levels ≡ 2 * 2 ^ levels = grind arith in
    elim (cases_lt row (r.top + r.height / 2)) [
      | inl north ↦ elim (cases_lt column (r.left + r.width / 2)) [
        | inl west ↦ (
          Northwest,
          record {
            below = omega (arith, i.below);
            above = omega arith;
            right = omega (arith, i.right);
            left = omega arith;
          },
        )
        | inr east ↦ (
          Northeast,
          record {
            below = omega (arith, i.below);
            above = omega arith;
            right = omega arith;
            left = omega (arith, i.left);
          },
        )
      ]
      | inr south ↦ elim (cases_lt column (r.left + r.width / 2)) [
        | inl west ↦ (
          Southwest,
          record {
            below = omega arith;
            above = omega (arith, i.above);
            right = omega (arith, i.right);
            left = omega arith;
          },
        )
        | inr east ↦ (
          Southeast,
          record {
            below = omega arith;
            above = omega (arith, i.above);
            right = omega arith;
            left = omega (arith, i.left);
          },
        )
      ]
    ]

-- a set that has a square's only cell fills it
pub fills_one : (d : ℕ) (has : ℕ → ℕ → Bool) (r : Rectangle) (row column : ℕ) → Sized d zero r → Inside r row column → has row column ≡ true
    → fills has r ≡ true
fills_one d has r row column s i e =
    let h : r.height ≡ 1 = s.height_is in
    let w : r.width ≡ 1 = s.width_is in
    fills_from has r (λ a b j.
    let f : row ≡ a = omega (arith, i.below, i.above, j.below, j.above) in
    let g : column ≡ b = omega (arith, i.right, i.left, j.right, j.left) in
    ap (λ (x : ℕ). has x b) (sym f) ∙ ap (λ (x : ℕ). has row x) (sym g) ∙ e)

-- each cell of the set that lies in a square lies in a square of the cover there
pub cover_complete : (d : ℕ) (has : ℕ → ℕ → Bool) (levels : ℕ) (q : List Quarter) (row column : ℕ) → levels + length q ≡ d
    → Inside (square d q) row column → has row column ≡ true
    → (p : List Quarter) × In p (cover_below d has levels q) × Inside (square d p) row column
cover_complete d has zero q row column l i h =
    let e = fills_one d has (square d q) row column (sized d zero q l) i h in
    (q, subst (λ (ps : List (List Quarter)). In q ps) (sym (cover_filled d has zero q e)) (inl refl), i)
cover_complete d has (suc levels) q row column l i h = elim (cases_Bool (fills has (square d q))) [
  | inl e ↦ (q, subst (λ (ps : List (List Quarter)). In q ps) (sym (cover_filled d has (suc levels) q e)) (inl refl), i)
  | inr e ↦
      let x = in_a_quarter d levels (square d q) row column (sized d (suc levels) q l) i in
      let m : levels + suc (length q) ≡ d = omega arith in
      let k = cover_complete d has levels (x.0 ∷ q) row column m x.1 h in
      (k.0, cover_part_in d has levels q k.0 e x.0 k.1, k.2)
]

-- a list without a member is empty
none_in : (ps : List (List Quarter)) → ((p : List Quarter) → In p ps → ⊥) → ps ≡ []
none_in [] f = refl
none_in (p ∷ ps) f = absurd (f p (inl refl))

-- a square without a cell of the set has nothing of its cover
pub cover_none : (d : ℕ) (has : ℕ → ℕ → Bool) (levels : ℕ) (q : List Quarter) → levels + length q ≡ d
    → ((row column : ℕ) → Inside (square d q) row column → has row column ≡ true → ⊥) → cover_below d has levels q ≡ []
cover_none d has levels q l none = none_in (cover_below d has levels q) (λ p i.
    let f = cover_found d has levels q p i in
    let long : (d - length p) + length p ≡ d = omega (arith, f.long) in
    let corner = has_corner d (d - length p) p long in
    let there = subst (λ (z : List Quarter). Inside (square d z) (square d p).top (square d p).left) f.path_is corner in
    none (square d p).top (square d p).left (square_inside d f.inner q (square d p).top (square d p).left there)
    (fills_at has (square d p) (square d p).top (square d p).left f.filled corner))

-- nor has a square that the set doesn't meet
pub cover_missed : (d levels : ℕ) (q : List Quarter) (g h : Grid) → levels + length q ≡ d → h ≡ grid_of d (holds (square d q))
    → grids_meet g h ≡ false → cover_below d (grid_has g) levels q ≡ []
cover_missed d levels q g h l e m = cover_none d (grid_has g) levels q l (λ row column i a.
    let s = sized d levels q l in
    let low : row < side d = omega (arith, i.above, s.height_is, s.high) in
    let near : column < side d = omega (arith, i.left, s.width_is, s.wide) in
    let b = ap (λ (x : Grid). grid_has x row column) e ∙ grid_has-grid_of d (holds (square d q)) row column low near
    ∙ holds_from (square d q) row column i in
    both_ways (grids_meet g h) m (grids_from g h row column a b))
