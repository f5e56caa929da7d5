-- The rows of a set in the cells form mark the cells of the set.
use Rattle.std.proofs.Common.{◌≡◌, ◌∙◌, ℕ, suc, zero, ◌+◌, ◌*◌, ◌-◌, ◌/◌, ◌%◌, ◌<◌, ◌==◌, Bool, true, false, List, [], ◌∷◌, ◌++◌, length}
use Rattle.std.{proofs.Common.{get_or, ◌≤◌, append_assoc, take, length-take, refl, sym, ap, arith, length-append}, specs.Char.{digit_char}}
use Rattle.std.{specs.{List.{flat_map, range_with_len}, Int.{bit_at}}, proofs.lemmas.List.{append-nil, Concat.{get_or-flat_map}}}
use Rattle.std.proofs.lemmas.List.FromFn.{length-range_with_len, get_or-range_with_len}
use Rattle.title_land.specs.{Depth.{depth}, Grids.{indices}, Survey.{side}, Laws.Sides.{side_is}}
use Rattle.title_spelling.specs.Cells.{number_of, row_text, rows_text, value_of, is_marked}

-- ---- one digit

abbrev has_bit : ℕ → ℕ → Bool
has_bit digit index = bit_at (value_of digit) (3 - index) == 1

-- the four cells of a digit
record Marks (digit : ℕ) (a b c d : Bool) : Type 0 where
  first : has_bit digit 0 ≡ a
  second : has_bit digit 1 ≡ b
  third : has_bit digit 2 ≡ c
  fourth : has_bit digit 3 ≡ d

digit_marks : (a b c d : Bool) → Marks (digit_char (number_of a b c d)) a b c d
digit_marks false false false false = record { first = refl; second = refl; third = refl; fourth = refl }
digit_marks false false false true = record { first = refl; second = refl; third = refl; fourth = refl }
digit_marks false false true false = record { first = refl; second = refl; third = refl; fourth = refl }
digit_marks false false true true = record { first = refl; second = refl; third = refl; fourth = refl }
digit_marks false true false false = record { first = refl; second = refl; third = refl; fourth = refl }
digit_marks false true false true = record { first = refl; second = refl; third = refl; fourth = refl }
digit_marks false true true false = record { first = refl; second = refl; third = refl; fourth = refl }
digit_marks false true true true = record { first = refl; second = refl; third = refl; fourth = refl }
digit_marks true false false false = record { first = refl; second = refl; third = refl; fourth = refl }
digit_marks true false false true = record { first = refl; second = refl; third = refl; fourth = refl }
digit_marks true false true false = record { first = refl; second = refl; third = refl; fourth = refl }
digit_marks true false true true = record { first = refl; second = refl; third = refl; fourth = refl }
digit_marks true true false false = record { first = refl; second = refl; third = refl; fourth = refl }
digit_marks true true false true = record { first = refl; second = refl; third = refl; fourth = refl }
digit_marks true true true false = record { first = refl; second = refl; third = refl; fourth = refl }
digit_marks true true true true = record { first = refl; second = refl; third = refl; fourth = refl }

-- ---- one row

-- a row's text marks a column exactly where the row has it
marked_row : (has : ℕ → ℕ → Bool) (row column : ℕ) → column < 16 →
    (bit_at (value_of (get_or (row_text has row) (1 + column / 4) 0)) (3 - column % 4) == 1) ≡ has row column
marked_row has row zero h = (digit_marks (has row 0) (has row 1) (has row 2) (has row 3)).first
marked_row has row (suc zero) h = (digit_marks (has row 0) (has row 1) (has row 2) (has row 3)).second
marked_row has row (suc (suc zero)) h = (digit_marks (has row 0) (has row 1) (has row 2) (has row 3)).third
marked_row has row (suc (suc (suc zero))) h = (digit_marks (has row 0) (has row 1) (has row 2) (has row 3)).fourth
marked_row has row (suc (suc (suc (suc zero)))) h = (digit_marks (has row 4) (has row 5) (has row 6) (has row 7)).first
marked_row has row (suc (suc (suc (suc (suc zero))))) h = (digit_marks (has row 4) (has row 5) (has row 6) (has row 7)).second
marked_row has row (suc (suc (suc (suc (suc (suc zero)))))) h = (digit_marks (has row 4) (has row 5) (has row 6) (has row 7)).third
marked_row has row (suc (suc (suc (suc (suc (suc (suc zero))))))) h = (digit_marks (has row 4) (has row 5) (has row 6) (has row 7)).fourth
marked_row has row (suc (suc (suc (suc (suc (suc (suc (suc zero)))))))) h =
    (digit_marks (has row 8) (has row 9) (has row 10) (has row 11)).first
marked_row has row (suc (suc (suc (suc (suc (suc (suc (suc (suc zero))))))))) h =
    (digit_marks (has row 8) (has row 9) (has row 10) (has row 11)).second
marked_row has row (suc (suc (suc (suc (suc (suc (suc (suc (suc (suc zero)))))))))) h =
    (digit_marks (has row 8) (has row 9) (has row 10) (has row 11)).third
marked_row has row (suc (suc (suc (suc (suc (suc (suc (suc (suc (suc (suc zero))))))))))) h =
    (digit_marks (has row 8) (has row 9) (has row 10) (has row 11)).fourth
marked_row has row (suc (suc (suc (suc (suc (suc (suc (suc (suc (suc (suc (suc zero)))))))))))) h =
    (digit_marks (has row 12) (has row 13) (has row 14) (has row 15)).first
marked_row has row (suc (suc (suc (suc (suc (suc (suc (suc (suc (suc (suc (suc (suc zero))))))))))))) h =
    (digit_marks (has row 12) (has row 13) (has row 14) (has row 15)).second
marked_row has row (suc (suc (suc (suc (suc (suc (suc (suc (suc (suc (suc (suc (suc (suc zero)))))))))))))) h =
    (digit_marks (has row 12) (has row 13) (has row 14) (has row 15)).third
marked_row has row (suc (suc (suc (suc (suc (suc (suc (suc (suc (suc (suc (suc (suc (suc (suc zero))))))))))))))) h =
    (digit_marks (has row 12) (has row 13) (has row 14) (has row 15)).fourth
marked_row has row (suc (suc (suc (suc (suc (suc (suc (suc (suc (suc (suc (suc (suc (suc (suc (suc k)))))))))))))))) h =
    absurd (omega arith)

-- ---- all rows

rows_long : (has : ℕ → ℕ → Bool) (rows : List ℕ) → length (flat_map (row_text has) rows) ≡ 5 * length rows
rows_long has [] = refl
rows_long has (row ∷ rows) =
    let more = rows_long has rows in
    length-append (row_text has row) (flat_map (row_text has) rows) ∙ (omega (arith, more))

-- the rows of a section take so many bytes
pub rows_length : (has : ℕ → ℕ → Bool) → length (rows_text has) ≡ 80
rows_length has =
    let long = rows_long has (indices depth) in
    let rows = length-range_with_len 0 (side depth) in
    omega (arith, long, rows, side_is)

front_long : (has : ℕ → ℕ → Bool) (row : ℕ) → row ≤ side depth → length (flat_map (row_text has) (take row (indices depth))) ≡ 5 * row
front_long has row h =
    let long = rows_long has (take row (indices depth)) in
    let rows = length-take row (indices depth) in
    let all = length-range_with_len 0 (side depth) in
    omega (arith, long, rows, all)

-- the rows of a section mark the cells that the test gives
pub rows_mark : (has : ℕ → ℕ → Bool) (row column : ℕ) → row < side depth → column < side depth →
    is_marked (rows_text has) row column ≡ has row column
rows_mark has row column r c =
    let all = length-range_with_len 0 (side depth) in
    let plain : 0 + row ≡ row = omega arith in
    let at : get_or (indices depth) row 0 ≡ row = get_or-range_with_len 0 (side depth) row 0 r ∙ plain in
    let here = get_or-flat_map (row_text has) (indices depth) row (1 + column / 4) 0 0 (omega (arith, all)) (omega (arith, side_is)) in
    let digit : get_or (rows_text has) (5 * row + (1 + column / 4)) 0 ≡ get_or (row_text has row) (1 + column / 4) 0 =
    ap (λ (n : ℕ). get_or (rows_text has) (n + (1 + column / 4)) 0) (sym (front_long has row (omega arith)))
    ∙ here ∙ ap (λ (n : ℕ). get_or (row_text has n) (1 + column / 4) 0) at in
    ap (λ (b : ℕ). bit_at (value_of b) (3 - column % 4) == 1) digit ∙ marked_row has row column (omega (arith, side_is))

-- one row more
pub rows_more : (f : ℕ → List ℕ) (a n : ℕ) → flat_map f (range_with_len a (suc n)) ≡ flat_map f (range_with_len a n) ++ f (a + n)
rows_more f a zero = let same : a ≡ a + 0 = omega arith in append-nil (f a) ∙ ap f same
rows_more f a (suc n) =
    let same : a + 1 + n ≡ a + suc n = omega arith in
    ap (λ (t : List ℕ). f a ++ t) (rows_more f (a + 1) n)
    ∙ sym (append_assoc (f a) (flat_map f (range_with_len (a + 1) n)) (f (a + 1 + n)))
    ∙ ap (λ (k : ℕ). (f a ++ flat_map f (range_with_len (a + 1) n)) ++ f k) same

pub rows_step : (f : ℕ → List ℕ) (n : ℕ) → flat_map f (range_with_len 0 (n + 1)) ≡ flat_map f (range_with_len 0 n) ++ f n
rows_step f n =
    let next : n + 1 ≡ suc n = omega arith in
    let same : 0 + n ≡ n = omega arith in
    ap (λ (k : ℕ). flat_map f (range_with_len 0 k)) next ∙ rows_more f 0 n
    ∙ ap (λ (k : ℕ). flat_map f (range_with_len 0 n) ++ f k) same
