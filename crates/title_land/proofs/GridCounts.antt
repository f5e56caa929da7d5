-- The cells of a set, counted by rows and columns.
use Rattle.std.proofs.Common.{◌≡◌, ℕ, suc, ◌+◌, Bool, false, List, [], ◌∷◌, Option, Some, length, cond, sum_by, count_by, refl}
use Rattle.std.{proofs.Common.{sym, ap, ◌∙◌, arith}, specs.{Prelude.{slice_get, option_and_then, unwrap_or}, List.{fold, range_with_len}}}
use Rattle.std.proofs.lemmas.{Option.{slice_get_within, get_or_from_slice_get}, List.Elements.{All-get_or}}
use Rattle.title_land.specs.{declared.grid.Grid.{Grid}, Survey.{side}}
use Rattle.title_land.specs.Grids.{grid_has, IsGrid, row_count, cell_count, cells_counted, indices}

-- a sum over a list is one over its indices
fold_same : {X : Type 0} (f : X → ℕ) (h : ℕ → ℕ) (xs : List X) (a start : ℕ)
    → ((i : ℕ) (x : X) → slice_get xs i ≡ Some x → f x ≡ h (start + i))
    → fold (λ s x. s + f x) a xs ≡ fold (λ s k. s + h k) a (range_with_len start (length xs))
fold_same f h [] a start e = refl
fold_same f h (x ∷ xs) a start e =
    let first : f x ≡ h start = e 0 x refl ∙ ap h (omega arith) in
    rw first (fold_same f h xs (a + h start) (start + 1) (λ i y k. e (suc i) y k ∙ ap h (omega arith)))

-- the same from 0 on
sum_same : {X : Type 0} (f : X → ℕ) (h : ℕ → ℕ) (xs : List X) (n : ℕ) → length xs ≡ n
    → ((i : ℕ) (x : X) → slice_get xs i ≡ Some x → f x ≡ h i) → sum_by f xs ≡ sum_by h (range_with_len 0 n)
sum_same f h xs n long e = fold_same f h xs 0 0 (λ i x k. e i x k ∙ ap h (omega arith)) ∙ ap (λ (m : ℕ). sum_by h (range_with_len 0 m)) long

-- a row's cell is that of the set
cell_is : (g : Grid) (row column : ℕ) (cells : List Bool) (cell : Bool) → slice_get g row ≡ Some cells
    → slice_get cells column ≡ Some cell → cell ≡ grid_has g row column
cell_is g row column cells cell h k =
    sym (ap (λ (m : Option (List Bool)). unwrap_or (option_and_then (λ row. slice_get row column) m) false) h
    ∙ ap (λ (m : Option Bool). unwrap_or m false) k)

-- a row's count is that of its columns
row_is : (depth : ℕ) (g : Grid) (row : ℕ) (cells : List Bool) → slice_get g row ≡ Some cells → length cells ≡ side depth
    → row_count cells ≡ count_by (λ column. grid_has g row column) (indices depth)
row_is depth g row cells h long =
    sum_same (λ cell. cond cell 1 0) (λ column. cond (grid_has g row column) 1 0) cells (side depth) long
    (λ column cell k. ap (λ (b : Bool). cond b 1 0) (cell_is g row column cells cell h k))

-- a row is as long as the section's side
row_long : (depth : ℕ) (g : Grid) (row : ℕ) (cells : List Bool) → IsGrid depth g → slice_get g row ≡ Some cells → length cells ≡ side depth
row_long depth g row cells size h =
    let inside = slice_get_within g row cells h in
    let wide = All-get_or (λ (row : List Bool). length row ≡ side depth) g row cells inside size.1 in
    sym (ap (λ (row : List Bool). length row) (get_or_from_slice_get g row cells cells h)) ∙ wide

-- a set as large as its section's grid has as many cells as there are rows and columns at which it has one
pub counts : (depth : ℕ) (g : Grid) → IsGrid depth g → cell_count g ≡ cells_counted depth (grid_has g)
unfolding cells_counted
counts depth g size =
    sum_same row_count (λ row. count_by (λ column. grid_has g row column) (indices depth)) g (side depth) size.0
    (λ row cells h. row_is depth g row cells h (row_long depth g row cells size h))
