-- Rows of cells as numbers: what `&`, `|`, `!= 0` and the count of a number's ones say of its cells.
use Rattle.std.proofs.Common.{◌≡◌, ℕ, ◌+◌, ◌-◌, ◌*◌, ◌%◌, ◌^◌, ◌<◌, ◌≤◌, Bool, true, false, not, ◌&&◌, ◌||◌, inl, inr, List, [], ◌∷◌, map}
use Rattle.std.{proofs.Common.{refl, sym, ap, ◌∙◌, arith}, specs.Prelude.{◌==◌, nat_le, nat_lt, bit_and, bit_or, count_ones}}
use Rattle.std.{specs.{Int.{bit_at, Bits.{and_lt}}, List.{range_with_len, list_any, zip}}, proofs.lemmas.Bool.Decides.{nat_tests}}
use Rattle.std.proofs.lemmas.Bool.{both_ways, eqb-true, cases_lt, le-leb, lt-leb, le-ltb, lt-ltb, and_from, and_left, and_parts, and_right}
use Rattle.std.proofs.lemmas.List.{map-id, Folds.{list_any_at, Any-from_list_any}, FromFn.{length-range_with_len, get_or-range_with_len}}
use Rattle.std.proofs.{lemmas.Nat.{pow_pos, one_shl, shl_whole, and_le_r}, Math.Pow.{ones_lt, high_ones, pow-sub-lt, pow_mono}}
use Rattle.std.proofs.lemmas.Nat.Bits.{bit_at-lt, bit_at-zero, bit_at_and, bit_at_or, bit_at_mask_below, bit_at_mask_inside}
use Rattle.std.{proofs.lemmas.{Nat.Bits.{bit_at_mask_above, same_from_bits_below}, Simd.{ones-mask_l}}, specs.Simd.Lanes.{mask_l}}
use Rattle.title_land.specs.{Grids.{rows_meet, row_count}, RowBits.{is_set, row_cells, HasColumns}, RowNumbers.{number_back}}

-- two tests that follow from one another are one
pub same_test : (a b : Bool) → (a ≡ true → b ≡ true) → (b ≡ true → a ≡ true) → a ≡ b
same_test true b f g = sym (f refl)
same_test false true f g = g refl
same_test false false f g = refl

-- ---- one bit
pub set_and : (a b k : ℕ) → is_set (bit_and a b) k ≡ (is_set a k && is_set b k)
set_and a b k = let e = bit_at_and a b k in let i = bit_at-lt a k in let j = bit_at-lt b k in grind (arith, nat_tests)

pub set_or : (a b k : ℕ) → is_set (bit_or a b) k ≡ (is_set a k || is_set b k)
set_or a b k = let e = bit_at_or a b k in let i = bit_at-lt a k in let j = bit_at-lt b k in grind (arith, nat_tests)

pub zero_clear : (k : ℕ) → is_set 0 k ≡ false
zero_clear k = ap (λ (b : ℕ). b == 1) (bit_at-zero k)

bits_same : (a b : ℕ) → a < 2 → b < 2 → (a == 1) ≡ (b == 1) → a ≡ b
bits_same a b h k e = grind (arith, nat_tests)

-- two numbers of n bits with the same bits are one
pub same_row : (n a b : ℕ) → a < 2 ^ n → b < 2 ^ n → ((k : ℕ) → k < n → is_set a k ≡ is_set b k) → a ≡ b
same_row n a b h k f = same_from_bits_below n a b h k (λ i l. bits_same (bit_at a i) (bit_at b i) (bit_at-lt a i) (bit_at-lt b i) (f i l))

-- ---- whether a row has a cell
any_at : (p : ℕ → Bool) (n k : ℕ) → k < n → p k ≡ true → list_any p (range_with_len 0 n) ≡ true
any_at p n k l h =
    list_any_at p (range_with_len 0 n) k 0 (omega (arith, length-range_with_len 0 n))
    (ap p (get_or-range_with_len 0 n k 0 l ∙ (let e : 0 + k ≡ k = omega arith in e)) ∙ h)

none_at : (p : ℕ → Bool) (n k : ℕ) → k < n → list_any p (range_with_len 0 n) ≡ false → p k ≡ false
none_at p n k l h = elim (p k) as (λ b. p k ≡ b
    → b ≡ false) [ true ↦ λ e. absurd (both_ways (list_any p (range_with_len 0 n)) h (any_at p n k l e)) | false ↦ λ _. refl ] refl

-- a number has a bit set exactly where it isn't 0
pub any_set : (n row : ℕ) → row < 2 ^ n → list_any (is_set row) (range_with_len 0 n) ≡ not (row == 0)
any_set n row h = same_test (list_any (is_set row) (range_with_len 0 n)) (not (row == 0)) found from
  where
    found : list_any (is_set row) (range_with_len 0 n) ≡ true → not (row == 0) ≡ true
    found e =
        let a = Any-from_list_any (is_set row) (range_with_len 0 n) e in
        elim (row == 0) as (λ b. (row == 0) ≡ b → not b ≡ true) [
          | true ↦ λ z. absurd (both_ways (is_set row a.1) (ap (λ (r : ℕ). is_set r a.1) (eqb-true row 0 z) ∙ zero_clear a.1) a.4)
          | false ↦ λ _. refl
        ] refl

    from : not (row == 0) ≡ true → list_any (is_set row) (range_with_len 0 n) ≡ true
    from e =
        elim (list_any (is_set row) (range_with_len 0 n)) as (λ b. list_any (is_set row) (range_with_len 0 n) ≡ b → b ≡ true) [
          | true ↦ λ _. refl
          | false ↦ λ z.
              let none : row ≡ 0 = same_row n row 0 h (pow_pos n) (λ k l. none_at (is_set row) n k l z ∙ sym (zero_clear k)) in
              absurd (grind (arith, nat_tests))
        ] refl

-- tests of lists that were made from one list
pub any_map : {X Y : Type 0} (f : Y → Bool) (v : X → Y) (xs : List X) → list_any f (map v xs) ≡ list_any (λ x. f (v x)) xs
any_map f v [] = refl
any_map f v (x ∷ xs) = ap (λ (b : Bool). f (v x) || b) (any_map f v xs)

pub any_agree : {X : Type 0} (p q : X → Bool) (xs : List X) → ((x : X) → p x ≡ q x) → list_any p xs ≡ list_any q xs
any_agree p q [] f = refl
any_agree p q (x ∷ xs) f = rw (f x, any_agree p q xs f) refl

any_zip : {X : Type 0} (g h : X → Bool) (xs : List X)
    → list_any (λ p. p.0 && p.1) (zip (map g xs) (map h xs)) ≡ list_any (λ x. g x && h x) xs
any_zip g h [] = refl
any_zip g h (x ∷ xs) = ap (λ (b : Bool). (g x && h x) || b) (any_zip g h xs)

-- a row has a cell exactly where its number isn't 0
pub row_some : (n row : ℕ) → row < 2 ^ n → list_any (λ cell. cell) (row_cells n row) ≡ not (row == 0)
unfolding row_cells
row_some n row h = any_map (λ cell. cell) (is_set row) (range_with_len 0 n) ∙ any_set n row h

-- two rows have a cell in common exactly where their numbers have a bit
pub row_meets : (n a b : ℕ) → a < 2 ^ n → b < 2 ^ n → rows_meet (row_cells n a) (row_cells n b) ≡ not (bit_and a b == 0)
unfolding row_cells
row_meets n a b h k =
    any_zip (is_set a) (is_set b) (range_with_len 0 n)
    ∙ any_agree (λ x. is_set a x && is_set b x) (is_set (bit_and a b)) (range_with_len 0 n) (λ x. sym (set_and a b x))
    ∙ any_set n (bit_and a b) (and_lt n a b h k)

-- a row has as many cells as its number has ones
pub row_counts : (n row : ℕ) → row < 2 ^ n → count_ones row ≡ row_count (row_cells n row)
row_counts n row h =
    ap count_ones (sym (number_back n row h) ∙ ap mask_l (sym (map-id (row_cells n row))))
    ∙ ones-mask_l (λ cell. cell) (row_cells n row)

-- ---- the columns of a rectangle
-- ones shifted to the left are a difference of two powers
pub columns_value : (left width : ℕ) → left + width < 64 → (1 * 2 ^ width % 2 ^ 64 - 1) * 2 ^ left % 2 ^ 64 ≡ 2 ^ (left + width) - 2 ^ left
columns_value left width h =
    let turned : width + left ≡ left + width = omega arith in
    ap (λ (x : ℕ). (x - 1) * 2 ^ left % 2 ^ 64) (one_shl width 64 (omega arith))
    ∙ shl_whole (2 ^ width - 1) width left 64 (ones_lt width) (omega arith)
    ∙ sym (high_ones width left)
    ∙ ap (λ (x : ℕ). 2 ^ x - 2 ^ left) turned

-- no column past the last
pub columns_fit : (left width n : ℕ) → left + width ≤ n → 2 ^ (left + width) - 2 ^ left < 2 ^ n
columns_fit left width n h =
    let low = pow-sub-lt (left + width) (pow_pos left) in
    let high : 2 ^ (left + width) ≤ 2 ^ n = pow_mono h in
    omega arith

pub columns_set : (left width : ℕ) → HasColumns (2 ^ (left + width) - 2 ^ left) left width
columns_set left width column =
    let mask = 2 ^ (left + width) - 2 ^ left in
    elim (cases_lt column left) [
      | inl l ↦ ap (λ (b : ℕ). b == 1) (bit_at_mask_below left (left + width) column l)
          ∙ sym (and_left (nat_le left column) (nat_lt column (left + width)) (lt-leb left column l))
      | inr r ↦ elim (cases_lt column (left + width)) [
        | inl m ↦ ap (λ (b : ℕ). b == 1) (bit_at_mask_inside left (left + width) column r m)
            ∙ sym (and_from (nat_le left column) (nat_lt column (left + width)) (le-leb left column r) (lt-ltb column (left + width) m))
        | inr m ↦ ap (λ (b : ℕ). b == 1) (bit_at_mask_above left (left + width) column m)
            ∙ sym (and_right (nat_le left column) (nat_lt column (left + width)) (le-ltb column (left + width) m))
      ]
    ]

-- a row has all of a mask's cells exactly where `&` leaves the mask
pub covers_mask : (n row mask : ℕ) → mask < 2 ^ n → ((k : ℕ) → k < n → is_set mask k ≡ true → is_set row k ≡ true) → bit_and row mask ≡ mask
covers_mask n row mask h f =
    let small = and_le_r row mask in
    same_row n (bit_and row mask) mask (omega arith) h (λ k l. set_and row mask k ∙ both (is_set row k) (is_set mask k) (f k l))
  where
    both : (a b : Bool) → (b ≡ true → a ≡ true) → (a && b) ≡ b
    both a true g = rw (g refl) refl
    both a false g = and_right a false refl

pub covered_mask : (row mask k : ℕ) → bit_and row mask ≡ mask → is_set mask k ≡ true → is_set row k ≡ true
covered_mask row mask k e h = (and_parts (is_set row k) (is_set mask k) (sym (set_and row mask k) ∙ ap (λ (x : ℕ). is_set x k) e ∙ h)).0
