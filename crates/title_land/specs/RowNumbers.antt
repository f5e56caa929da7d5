-- A grid's numbers are made back from its cells: the law behind copies and comparisons of sets of cells.
use Rattle.std.{proofs.Common.{◌≡◌, ℕ, ◌^◌, ◌<◌, Bool, false, cond, List, length, get_or, ap, subst, ◌∙◌, arith}, specs.Prelude.{◌==◌}}
use Rattle.std.{specs.{Int.{bit_at}, Simd.Lanes.{mask_l}}, proofs.lemmas.{Bool.Decides.{nat_tests}, Simd.{mask_l-lt, bit_mask_l, map-map}}}
use Rattle.std.proofs.lemmas.{Nat.Bits.{bit_at-lt, same_from_bits_below}, List.{Elements.{All-weaker}, Folds.{map_fixed}}}
use Rattle.std.proofs.lemmas.List.FromFn.{length-map-range_with_len, get_or-map-range_with_len}
use Rattle.title_land.specs.{Survey.{side}, RowBits.{is_set, row_cells, grid_cells, row_numbers, IsRows}}

-- a row has as many cells as are asked for
pub length-row_cells : (n row : ℕ) → length (row_cells n row) ≡ n
unfolding row_cells
length-row_cells n row = length-map-range_with_len (is_set row) 0 n

-- and each is set where its bit is
pub get_or-row_cells : (n row k : ℕ) (d : Bool) → k < n → get_or (row_cells n row) k d ≡ is_set row k
unfolding row_cells
get_or-row_cells n row k d h = get_or-map-range_with_len (is_set row) 0 n k k d h (omega arith)

bit_again : (b : ℕ) → b < 2 → cond (b == 1) 1 0 ≡ b
bit_again b h = grind (arith, nat_tests)

-- a row's number is made back from its cells
pub number_back : (n row : ℕ) → row < 2 ^ n → mask_l (row_cells n row) ≡ row
number_back n row h =
    let low : mask_l (row_cells n row) < 2 ^ n =
    subst (λ (k : ℕ). mask_l (row_cells n row) < 2 ^ k) (length-row_cells n row) (mask_l-lt (row_cells n row)) in
    same_from_bits_below n (mask_l (row_cells n row)) row low h
    (λ k l. bit_mask_l (row_cells n row) k ∙ ap (λ (c : Bool). cond c 1 0) (get_or-row_cells n row k false l)
    ∙ bit_again (bit_at row k) (bit_at-lt row k))

-- and so are all rows' numbers
pub rows_back : (d : ℕ) (rows : List ℕ) → IsRows d rows → row_numbers (grid_cells d rows) ≡ rows
rows_back d rows h =
    map-map mask_l (row_cells (side d)) rows
    ∙ map_fixed (λ row. mask_l (row_cells (side d) row)) rows
    (All-weaker (λ row. row < 2 ^ side d) (λ row. mask_l (row_cells (side d) row) ≡ row) (λ row l. number_back (side d) row l) rows h.1)
