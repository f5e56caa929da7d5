-- Squares of a section: which cells they hold, and that two with a cell in common lie one in the other.
use Rattle.std.proofs.Common.{◌≡◌, ℕ, zero, suc, ◌+◌, ◌*◌, ◌^◌, ◌<◌, ◌≤◌, true, ◌&&◌, inl, inr, List, [], ◌∷◌, ◌++◌, length, refl, sym}
use Rattle.std.proofs.{Common.{ap, subst, ◌∙◌, arith}, lemmas.Bool.{leb-true, ltb-true, le-leb, lt-ltb, and_parts, and_from, cases_lt}}
use Rattle.std.specs.Prelude.{nat_le, nat_lt}
use Rattle.title_land.specs.{declared.rectangle.Quarter.{Quarter, TheVariants.{Northeast, Northwest, Southwest, Southeast}}, Nodes.{square}}
use Rattle.title_land.specs.{declared.rectangle.Rectangle.{Rectangle}, Rectangles.{quarter_of, holds}}

-- the cell of this row and column lies in the rectangle, by its four bounds
pub record Inside (r : Rectangle) (row column : ℕ) : Type 0 where
  pub below : r.top ≤ row
  pub above : row < r.top + r.height
  pub right : r.left ≤ column
  pub left : column < r.left + r.width

pub inside : (r : Rectangle) (row column : ℕ) → holds r row column ≡ true → Inside r row column
inside r row column h =
    let k = and_parts (nat_le r.top row && nat_lt row (r.top + r.height) && nat_le r.left column) (nat_lt column (r.left + r.width)) h in
    let m = and_parts (nat_le r.top row && nat_lt row (r.top + r.height)) (nat_le r.left column) k.0 in
    let n = and_parts (nat_le r.top row) (nat_lt row (r.top + r.height)) m.0 in
    record {
      below = leb-true r.top row n.0;
      above = ltb-true row (r.top + r.height) n.1;
      right = leb-true r.left column m.1;
      left = ltb-true column (r.left + r.width) k.1;
    }

pub holds_from : (r : Rectangle) (row column : ℕ) → Inside r row column → holds r row column ≡ true
holds_from r row column i =
    and_from _ _ (and_from _ _ (and_from _ _ (le-leb r.top row i.below) (lt-ltb row (r.top + r.height) i.above))
    (le-leb r.left column i.right)) (lt-ltb column (r.left + r.width) i.left)

pub quarter_inside : (q : Quarter) (r : Rectangle) (row column : ℕ) → Inside (quarter_of q r) row column → Inside r row column
quarter_inside Northeast r row column i = record {
  below = omega (arith, i.below);
  above = omega (arith, i.above);
  right = omega (arith, i.right);
  left = omega (arith, i.left);
}
quarter_inside Northwest r row column i = record {
  below = omega (arith, i.below);
  above = omega (arith, i.above);
  right = omega (arith, i.right);
  left = omega (arith, i.left);
}
quarter_inside Southwest r row column i = record {
  below = omega (arith, i.below);
  above = omega (arith, i.above);
  right = omega (arith, i.right);
  left = omega (arith, i.left);
}
quarter_inside Southeast r row column i = record {
  below = omega (arith, i.below);
  above = omega (arith, i.above);
  right = omega (arith, i.right);
  left = omega (arith, i.left);
}

-- no cell lies in two quarters
pub quarters_apart : (a b : Quarter) (r : Rectangle) (row column : ℕ) → Inside (quarter_of a r) row column
    → Inside (quarter_of b r) row column → a ≡ b
quarters_apart Northeast Northeast r row column i j = refl
quarters_apart Northeast Northwest r row column i j = absurd (omega (arith, i.right, j.left))
quarters_apart Northeast Southwest r row column i j = absurd (omega (arith, i.right, j.left))
quarters_apart Northeast Southeast r row column i j = absurd (omega (arith, i.above, j.below))
quarters_apart Northwest Northeast r row column i j = absurd (omega (arith, i.left, j.right))
quarters_apart Northwest Northwest r row column i j = refl
quarters_apart Northwest Southwest r row column i j = absurd (omega (arith, i.above, j.below))
quarters_apart Northwest Southeast r row column i j = absurd (omega (arith, i.above, j.below))
quarters_apart Southwest Northeast r row column i j = absurd (omega (arith, i.left, j.right))
quarters_apart Southwest Northwest r row column i j = absurd (omega (arith, i.below, j.above))
quarters_apart Southwest Southwest r row column i j = refl
quarters_apart Southwest Southeast r row column i j = absurd (omega (arith, i.left, j.right))
quarters_apart Southeast Northeast r row column i j = absurd (omega (arith, i.below, j.above))
quarters_apart Southeast Northwest r row column i j = absurd (omega (arith, i.below, j.above))
quarters_apart Southeast Southwest r row column i j = absurd (omega (arith, i.right, j.left))
quarters_apart Southeast Southeast r row column i j = refl

-- two squares of one size with a cell in common are one
pub one_square : (d : ℕ) (p q : List Quarter) (row column : ℕ) → length p ≡ length q → Inside (square d p) row column
    → Inside (square d q) row column → p ≡ q
one_square d [] [] row column l i j = refl
one_square d [] (b ∷ q) row column l i j = absurd (omega arith)
one_square d (a ∷ p) [] row column l i j = absurd (omega arith)
one_square d (a ∷ p) (b ∷ q) row column l i j =
    let k : length p ≡ length q = omega arith in
    let same = one_square d p q row column k (quarter_inside a (square d p) row column i) (quarter_inside b (square d q) row column j) in
    let j2 = subst (λ (z : List Quarter). Inside (quarter_of b (square d z)) row column) (sym same) j in
    let head = quarters_apart a b (square d p) row column i j2 in
    ap (λ (z : Quarter). z ∷ p) head ∙ ap (λ (z : List Quarter). b ∷ z) same

-- the first square lies in the second or is it: its quarters end with those of the second
pub record LiesAt (p q : List Quarter) : Type 0 where
  pub within : List Quarter
  pub path_is : p ≡ within ++ q

-- of two squares with a cell in common, the one with more quarters lies in the other
pub nested : (d : ℕ) (p q : List Quarter) (row column : ℕ) → length q ≤ length p → Inside (square d p) row column
    → Inside (square d q) row column → LiesAt p q
nested d [] q row column l i j = record { within = []; path_is = one_square d [] q row column (omega arith) i j }
nested d (a ∷ p) q row column l i j =
    elim (cases_lt (length q) (suc (length p))) [
      | inl k ↦
          let shorter : length q ≤ length p = omega arith in
          let n = nested d p q row column shorter (quarter_inside a (square d p) row column i) j in
          record { within = a ∷ n.within; path_is = ap (λ (z : List Quarter). a ∷ z) n.path_is }
      | inr k ↦
          let same : suc (length p) ≡ length q = omega arith in
          record { within = []; path_is = one_square d (a ∷ p) q row column same i j }
    ]

-- the cells of a square lie in those above it
pub square_inside : (d : ℕ) (p q : List Quarter) (row column : ℕ) → Inside (square d (p ++ q)) row column → Inside (square d q) row column
square_inside d [] q row column i = i
square_inside d (a ∷ p) q row column i = square_inside d p q row column (quarter_inside a (square d (p ++ q)) row column i)

-- a square with so many levels below it lies in the section, and its sides have 2 to that power cells
pub record Sized (d levels : ℕ) (r : Rectangle) : Type 0 where
  pub height_is : r.height ≡ 2 ^ levels
  pub width_is : r.width ≡ 2 ^ levels
  pub high : r.top + 2 ^ levels ≤ 2 ^ d
  pub wide : r.left + 2 ^ levels ≤ 2 ^ d

two_pow : (n : ℕ) → 2 ^ suc n ≡ 2 * 2 ^ n
two_pow n = grind arith

sized_quarter : (d levels : ℕ) (q : Quarter) (r : Rectangle) → Sized d (suc levels) r → Sized d levels (quarter_of q r)
sized_quarter d levels Northeast r s = let e = two_pow levels in
    record { height_is = omega (arith, s, e); width_is = omega (arith, s, e); high = omega (arith, s, e); wide = omega (arith, s, e) }
sized_quarter d levels Northwest r s = let e = two_pow levels in
    record { height_is = omega (arith, s, e); width_is = omega (arith, s, e); high = omega (arith, s, e); wide = omega (arith, s, e) }
sized_quarter d levels Southwest r s = let e = two_pow levels in
    record { height_is = omega (arith, s, e); width_is = omega (arith, s, e); high = omega (arith, s, e); wide = omega (arith, s, e) }
sized_quarter d levels Southeast r s = let e = two_pow levels in
    record { height_is = omega (arith, s, e); width_is = omega (arith, s, e); high = omega (arith, s, e); wide = omega (arith, s, e) }

pub sized : (d levels : ℕ) (q : List Quarter) → levels + length q ≡ d → Sized d levels (square d q)
sized d levels [] l =
    let e : levels ≡ d = omega arith in
    rw e record { height_is = refl; width_is = refl; high = omega arith; wide = omega arith }
sized d levels (a ∷ q) l = sized_quarter d levels a (square d q) (sized d (suc levels) q (omega arith))

pub pow_positive : (n : ℕ) → 0 < 2 ^ n
pow_positive zero = omega arith
pow_positive (suc n) = let e = pow_positive n in let f = two_pow n in omega arith

-- each square has its northwest cell
pub has_corner : (d levels : ℕ) (q : List Quarter) → levels + length q ≡ d → Inside (square d q) (square d q).top (square d q).left
has_corner d levels q l =
    let s = sized d levels q l in
    let e = pow_positive levels in
    record { below = omega arith; above = omega (arith, s, e); right = omega arith; left = omega (arith, s, e) }
