-- Squares by their numbers: a number's quarters are those of the square that it numbers.
use Rattle.std.proofs.Common.{◌≡◌, ℕ, zero, suc, ◌+◌, ◌*◌, ◌/◌, ◌%◌, ◌^◌, ◌<◌, ◌≤◌, Bool, true, false, inl, inr, List, [], ◌∷◌, length}
use Rattle.std.{proofs.{Common.{refl, sym, ap, ◌∙◌, arith, lit≤, cond}, Math.Pow.{pow_mono}}, specs.Prelude.{nat_le, ◌==◌}}
use Rattle.std.proofs.lemmas.Bool.{cases_lt, false_from_ne_true, eqb-true, leb-true, le-leb}
use Rattle.title_land.specs.{declared.rectangle.Quarter.{Quarter, TheVariants.{Northeast, Northwest, Southwest, Southeast}}, Depth.{depth}}
use Rattle.title_land.specs.declared.node.TheConstants.{FIRST_CELL}
use Rattle.title_land.specs.Paths.{quarter_number, quarter_at, path_number, path_at, quarters_in, IsPathNumber}

-- ---- quarters

pub quarter_below : (q : Quarter) → quarter_number q < 4
quarter_below Northeast = omega arith
quarter_below Northwest = omega arith
quarter_below Southwest = omega arith
quarter_below Southeast = omega arith

pub quarter_at-number : (q : Quarter) → quarter_at (quarter_number q) ≡ q
quarter_at-number Northeast = refl
quarter_at-number Northwest = refl
quarter_at-number Southwest = refl
quarter_at-number Southeast = refl

pub quarter_number-at : (n : ℕ) → n < 4 → quarter_number (quarter_at n) ≡ n
quarter_number-at zero h = refl
quarter_number-at (suc zero) h = refl
quarter_number-at (suc (suc zero)) h = refl
quarter_number-at (suc (suc (suc zero))) h = refl
quarter_number-at (suc (suc (suc (suc n)))) h = absurd (omega arith)

-- ---- squares

pub path_positive : (q : List Quarter) → 0 < path_number q
path_positive [] = omega arith
path_positive (a ∷ q) = omega (arith, path_positive q)

-- the parts of a longer path's number
tail_is : (n k : ℕ) → k < 4 → (n * 4 + k) / 4 ≡ n
tail_is n k h = omega arith

head_is : (n k : ℕ) → k < 4 → (n * 4 + k) % 4 ≡ k
head_is n k h = omega arith

not_zero : (n : ℕ) → 0 < n → (n == 0) ≡ false
not_zero n h = false_from_ne_true (n == 0) (λ e. let z = eqb-true n 0 e in absurd (omega arith))

-- the number of a path of at most so many quarters gives them back
pub path_at-number : (most : ℕ) (q : List Quarter) → length q ≤ most → path_at most (path_number q) ≡ q
path_at-number zero [] h = refl
path_at-number zero (a ∷ q) h = absurd (omega arith)
path_at-number (suc most) [] h = refl
path_at-number (suc most) (a ∷ q) h =
    let t = tail_is (path_number q) (quarter_number a) (quarter_below a) in
    let r = head_is (path_number q) (quarter_number a) (quarter_below a) in
    let z = not_zero (path_number q) (path_positive q) in
    let shorter : length q ≤ most = omega arith in
    rw (t, r, z) (rw (quarter_at-number a, path_at-number most q shorter) refl)

-- no number gives more quarters than asked for
pub length-path_at : (most n : ℕ) → length (path_at most n) ≤ most
length-path_at zero n = omega arith
length-path_at (suc most) n = go ((n / 4) == 0) (length-path_at most (n / 4))
  where
    go : (b : Bool) → length (path_at most (n / 4)) ≤ most → length (cond b [] (quarter_at (n % 4) ∷ path_at most (n / 4))) ≤ suc most
    go true h = omega arith
    go false h = omega arith

-- paths with one number are one
pub path_number-is : (p q : List Quarter) → path_number p ≡ path_number q → p ≡ q
path_number-is [] [] e = refl
path_number-is [] (b ∷ q) e = absurd (omega (arith, path_positive q))
path_number-is (a ∷ p) [] e = absurd (omega (arith, path_positive p))
path_number-is (a ∷ p) (b ∷ q) e =
    let ka = quarter_below a in
    let kb = quarter_below b in
    let digits : quarter_number a ≡ quarter_number b = omega arith in
    let tails : path_number p ≡ path_number q = omega arith in
    let same : a ≡ b = sym (quarter_at-number a) ∙ ap quarter_at digits ∙ quarter_at-number b in
    rw (same, path_number-is p q tails) refl

-- ---- numbers that fit

two_pow : (n : ℕ) → 2 ^ suc n ≡ 2 * 2 ^ n
two_pow n = grind arith

path_number_below : (q : List Quarter) → path_number q < 2 ^ (2 * length q + 1)
path_number_below [] = lit≤ tt
path_number_below (a ∷ q) =
    let n = 2 * length q + 1 in
    let twice : 2 * suc (length q) + 1 ≡ suc (suc n) = omega arith in
    let e : 2 ^ (2 * suc (length q) + 1) ≡ 2 * (2 * 2 ^ n) = ap (λ k. 2 ^ k) twice ∙ two_pow (suc n) ∙ ap (λ x. 2 * x) (two_pow n) in
    omega (arith, path_number_below q, quarter_below a, e)

pub depth_fits : 2 * depth + 1 ≤ 16
unfolding depth
depth_fits = lit≤ tt

-- a square of the grid has a number of 16 bits
pub path_fits : (q : List Quarter) → length q ≤ depth → path_number q < 2 ^ 16
path_fits q h =
    let fits = depth_fits in
    let more : 2 ^ (2 * length q + 1) ≤ 2 ^ 16 = pow_mono {i = 2 * length q + 1} {j = 16} (omega arith) in
    omega (arith, path_number_below q, more)

-- ---- a square's number, and that of its quarters

-- the number is that of the square's quarters
pub number_of : (n : ℕ) (q : List Quarter) → IsPathNumber n → quarters_in n ≡ q → n ≡ path_number q
number_of n q h e = sym h ∙ ap path_number e

pub quarters_of_number : (n : ℕ) (q : List Quarter) → length q ≤ depth → n ≡ path_number q → quarters_in n ≡ q
quarters_of_number n q l e = ap quarters_in e ∙ path_at-number depth q l

pub is_path_number : (n : ℕ) (q : List Quarter) → length q ≤ depth → n ≡ path_number q → IsPathNumber n
is_path_number n q l e = ap path_number (quarters_of_number n q l e) ∙ sym e

-- a square has no more quarters than the depth
pub path_short : (n : ℕ) (q : List Quarter) → quarters_in n ≡ q → length q ≤ depth
path_short n q e = rw (← e) (length-path_at depth n)

-- a number below 4 is the section's, any other a quarter's of the square with a fourth of it
pub path_whole : (n : ℕ) (q : List Quarter) → n ≡ path_number q → n < 4 → q ≡ []
path_whole n [] e h = refl
path_whole n (a ∷ q) e h = absurd (omega (arith, path_positive q))

pub record IsQuarterOf (n : ℕ) (q : List Quarter) : Type 0 where
  pub outer : List Quarter
  pub parts : q ≡ quarter_at (n % 4) ∷ outer
  pub number_is : n / 4 ≡ path_number outer
  pub shorter : length outer < length q

pub path_split : (n : ℕ) (q : List Quarter) → n ≡ path_number q → 4 ≤ n → IsQuarterOf n q
path_split n [] e h = absurd (omega arith)
path_split n (a ∷ q) e h =
    let t = tail_is (path_number q) (quarter_number a) (quarter_below a) in
    let r = head_is (path_number q) (quarter_number a) (quarter_below a) in
    record {
      outer = q;
      parts = ap (λ (x : Quarter). x ∷ q) (sym (ap quarter_at (ap (λ m. m % 4) e ∙ r) ∙ quarter_at-number a));
      number_is = ap (λ m. m / 4) e ∙ t;
      shorter = omega arith;
    }

-- ---- cells

path_number_least : (q : List Quarter) → 2 ^ (2 * length q) ≤ path_number q
path_number_least [] = lit≤ tt
path_number_least (a ∷ q) =
    let n = 2 * length q in
    let twice : 2 * suc (length q) ≡ suc (suc n) = omega arith in
    let e : 2 ^ (2 * suc (length q)) ≡ 2 * (2 * 2 ^ n) = ap (λ k. 2 ^ k) twice ∙ two_pow (suc n) ∙ ap (λ x. 2 * x) (two_pow n) in
    omega (arith, path_number_least q, e)

-- a number is a cell's where there are as many quarters as the depth
pub cell_numbered : (q : List Quarter) → depth ≤ length q → 2 ^ (2 * depth) ≤ path_number q
cell_numbered q h =
    let more : 2 ^ (2 * depth) ≤ 2 ^ (2 * length q) = pow_mono {i = 2 * depth} {j = 2 * length q} (omega arith) in
    omega (arith, path_number_least q, more)

pub no_cell_numbered : (q : List Quarter) → length q < depth → path_number q < 2 ^ (2 * depth)
no_cell_numbered q h =
    let more : 2 ^ (2 * length q + 1) ≤ 2 ^ (2 * depth) = pow_mono {i = 2 * length q + 1} {j = 2 * depth} (omega arith) in
    omega (arith, path_number_below q, more)

first_cell_is : 2 ^ (2 * depth) ≡ FIRST_CELL
unfolding depth
first_cell_is = refl

-- the test of a square's number is that of its quarters
pub cell_test : (n : ℕ) (q : List Quarter) → n ≡ path_number q → nat_le FIRST_CELL n ≡ nat_le depth (length q)
cell_test n q e =
    let first = first_cell_is in
    elim (cases_lt (length q) depth) [
      | inl l ↦
          let few = no_cell_numbered q l in
          false_from_ne_true (nat_le FIRST_CELL n) (λ t. let h = leb-true FIRST_CELL n t in absurd (omega arith))
          ∙ sym (false_from_ne_true (nat_le depth (length q)) (λ t. let h = leb-true depth (length q) t in absurd (omega arith)))
      | inr l ↦
          let many = cell_numbered q l in
          le-leb FIRST_CELL n (omega arith) ∙ sym (le-leb depth (length q) l)
    ]
