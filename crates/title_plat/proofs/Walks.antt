-- Walks over rows and parts.
use Rattle.std.proofs.Common.{◌≡◌, ◌≤◌, ◌<◌, ◌+◌, ◌-◌, ◌∙◌, ℕ, suc, Bool, true, false, cond, List, [], ◌∷◌, length, take, drop}
use Rattle.std.proofs.Common.{get_or, sym, ap, arith}
use Rattle.std.proofs.lemmas.{Grind.{common_steps}, List.{drop-drop, drop_more, length-drop, Sums.{prefix_len-le-length}}}
use Rattle.std.specs.List.{prefix_len}
use Rattle.title_plat.specs.{declared.{parts.Part.{Part}, row.Row.{Row}}, Parts.{is_row_of, part_at, parts_behind, parts_from}}

-- a part that ends elsewhere
abbrev pub ending : Part → ℕ → Part
ending part end = record part { end = end }

-- where a row is of the part or isn't, from what is known of the rows behind it
run_more : (part : Part) (row : Row) (rows : List Row) (n : ℕ) (alike : Bool)
    → parts_behind (ending part (part.end + 1)) rows ≡ ending part (part.end + 1 + n) ∷ parts_from (part.end + 1 + n) (drop n rows)
    → cond alike (parts_behind (ending part (part.end + 1)) rows) (part ∷ parts_behind (part_at part.end row) rows)
    ≡ ending part (part.end + cond alike (1 + n) 0)
    ∷ parts_from (part.end + cond alike (1 + n) 0) (drop (cond alike (1 + n) 0) (row ∷ rows))
run_more part row rows n true rest =
    let ends : part.end + 1 + n ≡ part.end + (1 + n) = omega arith in
    let count : suc n ≡ 1 + n = omega arith in
    rest
    ∙ ap (λ (k : ℕ). ending part k ∷ parts_from k (drop n rows)) ends
    ∙ ap (λ (k : ℕ). ending part (part.end + (1 + n)) ∷ parts_from (part.end + (1 + n)) (drop k (row ∷ rows))) count
run_more part row rows n false rest =
    let ends : part.end ≡ part.end + 0 = omega arith in
    ap (λ (k : ℕ). ending part k ∷ parts_from k (row ∷ rows)) ends

-- a part takes the rows that are like it, and the others are those of the parts behind it
run_then : (part : Part) (rows : List Row) → let n = prefix_len (is_row_of part.node part.estate) rows in
    parts_behind part rows ≡ ending part (part.end + n) ∷ parts_from (part.end + n) (drop n rows)
run_then part [] = let ends : part.end ≡ part.end + 0 = omega arith in ap (λ (k : ℕ). ending part k ∷ []) ends
run_then part (row ∷ rows) = run_more part row rows _ _ (run_then (ending part (part.end + 1)) rows)

-- the rows behind one, as the slice from there on has them
abbrev pub behind : List Row → ℕ → List Row
behind rows first = take (length rows - (first + 1)) (drop (first + 1) rows)

-- they are the rest of the list
rest_of : (rows : List Row) (first : ℕ) → behind rows first ≡ drop (first + 1) rows
rest_of rows first = grind (arith, common_steps)

-- those of them that are like it are rows of the sheet
pub run_within : (rows : List Row) (like : Row → Bool) (first count : ℕ) → first < length rows
    → count ≡ prefix_len like (behind rows first) → first + 1 + count ≤ length rows
run_within rows like first count inside counted =
    let fits = prefix_len-le-length like (behind rows first) in
    let size = ap length (rest_of rows first) ∙ length-drop (first + 1) rows in
    omega (arith, fits, size, counted, inside)

-- the part that begins at a row, and the parts behind it
pub part_then : (rows : List Row) (first count : ℕ) (row : Row) → first < length rows → row ≡ get_or rows first row
    → count ≡ prefix_len (is_row_of row.node row.estate) (behind rows first) → parts_from first (drop first rows)
    ≡ ending (part_at first row) (first + 1 + count) ∷ parts_from (first + 1 + count) (drop (first + 1 + count) rows)
part_then rows first count row inside here counted =
    let run : count ≡ prefix_len (is_row_of row.node row.estate) (drop (first + 1) rows) =
    counted ∙ ap (prefix_len (is_row_of row.node row.estate)) (rest_of rows first) in
    ap (parts_from first) (drop_more rows first row inside ∙ ap (λ (r : Row). r ∷ drop (first + 1) rows) (sym here))
    ∙ run_then (part_at first row) (drop (first + 1) rows)
    ∙ ap (λ (k : ℕ). ending (part_at first row) (first + 1 + k) ∷ parts_from (first + 1 + k) (drop k (drop (first + 1) rows))) (sym run)
    ∙ ap (λ (left : List Row). ending (part_at first row) (first + 1 + count) ∷ parts_from (first + 1 + count) left)
    (drop-drop count (first + 1) rows)
