-- Two sets of cells meet exactly where they share a cell.
use Rattle.std.proofs.Common.{◌≡◌, ℕ, zero, suc, ◌<◌, Bool, true, false, ◌&&◌, inl, inr, List, [], ◌∷◌, Option, Some, None, length, refl}
use Rattle.std.{proofs.Common.{sym, ap, ◌∙◌, arith}, specs.{Prelude.{slice_get, option_and_then, unwrap_or}, List.{list_any, zip}}}
use Rattle.std.proofs.lemmas.{Bool.{and_parts, or_cases, or_left, or_right}, Option.{slice_get_within, get_or_from_slice_get}}
use Rattle.std.proofs.lemmas.List.Elements.{All-get_or}
use Rattle.title_land.specs.{declared.grid.Grid.{Grid}, Survey.{side}, Grids.{grid_has, has_some, rows_meet, grids_meet, IsGrid}}

-- an element of each list at one index, of which a test holds
record Pair {X Y : Type 0} (f : X → Y → Bool) (xs : List X) (ys : List Y) : Type 0 where
  index : ℕ
  left : X
  right : Y
  left_at : slice_get xs index ≡ Some left
  right_at : slice_get ys index ≡ Some right
  holds : f left right ≡ true

-- a pair of two tails is one of the lists
pair_later : {X Y : Type 0} (f : X → Y → Bool) (x : X) (y : Y) (xs : List X) (ys : List Y) → Pair f xs ys → Pair f (x ∷ xs) (y ∷ ys)
pair_later f x y xs ys p = record {
  index = suc p.index;
  left = p.left;
  right = p.right;
  left_at = p.left_at;
  right_at = p.right_at;
  holds = p.holds;
}

-- a test that holds of some pair of two lists holds at an index of both
pair_found : {X Y : Type 0} (f : X → Y → Bool) (xs : List X) (ys : List Y) → list_any (λ p. f p.0 p.1) (zip xs ys) ≡ true → Pair f xs ys
pair_found f [] ys h = absurd cc
pair_found f (x ∷ xs) [] h = absurd cc
pair_found f (x ∷ xs) (y ∷ ys) h = elim (or_cases (f x y) (list_any (λ p. f p.0 p.1) (zip xs ys)) h) [
  | inl e ↦ record { index = 0; left = x; right = y; left_at = refl; right_at = refl; holds = e }
  | inr e ↦ pair_later f x y xs ys (pair_found f xs ys e)
]

-- and the other way
pair_from : {X Y : Type 0} (f : X → Y → Bool) (xs : List X) (ys : List Y) (i : ℕ) (x : X) (y : Y) → slice_get xs i ≡ Some x
    → slice_get ys i ≡ Some y → f x y ≡ true → list_any (λ p. f p.0 p.1) (zip xs ys) ≡ true
pair_from f [] ys i x y h k t = absurd cc
pair_from f (a ∷ xs) [] i x y h k t = absurd cc
pair_from f (a ∷ xs) (b ∷ ys) zero x y h k t =
    let e : a ≡ x = cc in
    let g : b ≡ y = cc in
    or_left (f a b) (list_any (λ p. f p.0 p.1) (zip xs ys)) (rw (e, g) t)
pair_from f (a ∷ xs) (b ∷ ys) (suc i) x y h k t =
    or_right (f a b) (list_any (λ p. f p.0 p.1) (zip xs ys)) (pair_from f xs ys i x y h k t)

-- an element of which a test holds
record One {X : Type 0} (f : X → Bool) (xs : List X) : Type 0 where
  index : ℕ
  value : X
  value_at : slice_get xs index ≡ Some value
  holds : f value ≡ true

-- a test that holds of some element holds at an index
one_found : {X : Type 0} (f : X → Bool) (xs : List X) → list_any f xs ≡ true → One f xs
one_found f [] h = absurd cc
one_found f (x ∷ xs) h = elim (or_cases (f x) (list_any f xs) h) [
  | inl e ↦ record { index = 0; value = x; value_at = refl; holds = e }
  | inr e ↦ let k = one_found f xs e in record { index = suc k.index; value = k.value; value_at = k.value_at; holds = k.holds }
]

-- and the other way
one_from : {X : Type 0} (f : X → Bool) (xs : List X) (i : ℕ) (x : X) → slice_get xs i ≡ Some x → f x ≡ true → list_any f xs ≡ true
one_from f [] i x h t = absurd cc
one_from f (a ∷ xs) zero x h t = let e : a ≡ x = cc in or_left (f a) (list_any f xs) (rw e t)
one_from f (a ∷ xs) (suc i) x h t = or_right (f a) (list_any f xs) (one_from f xs i x h t)

-- a cell that reads true is there
cell_of : (m : Option Bool) → unwrap_or m false ≡ true → m ≡ Some true
cell_of None h = absurd cc
cell_of (Some b) h = ap (λ (x : Bool). Some x) h

abbrev cell_in : Option (List Bool) → ℕ → Bool
cell_in m column = unwrap_or (option_and_then (λ cells. slice_get cells column) m) false

-- and so is its row
row_of : (m : Option (List Bool)) (column : ℕ) → cell_in m column ≡ true
    → (cells : List Bool) × (m ≡ Some cells) × (slice_get cells column ≡ Some true)
row_of None column h = absurd cc
row_of (Some cells) column h = (cells, refl, cell_of (slice_get cells column) h)

-- a cell of a set stands in one of its rows
has_parts : (g : Grid) (row column : ℕ) → grid_has g row column ≡ true
    → (cells : List Bool) × (slice_get g row ≡ Some cells) × (slice_get cells column ≡ Some true)
has_parts g row column h = row_of (slice_get g row) column h

-- and the other way
has_from : (g : Grid) (row column : ℕ) (cells : List Bool) (cell : Bool) → slice_get g row ≡ Some cells
    → slice_get cells column ≡ Some cell → cell ≡ true → grid_has g row column ≡ true
has_from g row column cells cell h k t = ap (λ (m : Option (List Bool)). cell_in m column) h
    ∙ ap (λ (m : Option Bool). unwrap_or m false) k ∙ t

-- two sets that meet have a cell in common
pub grids_found : (g h : Grid) → grids_meet g h ≡ true
    → (row : ℕ) × (column : ℕ) × (grid_has g row column ≡ true) × (grid_has h row column ≡ true)
grids_found g h m =
    let rows = pair_found rows_meet g h m in
    let cells = pair_found (λ a b. a && b) rows.left rows.right rows.holds in
    let both = and_parts cells.left cells.right cells.holds in
    (rows.index, cells.index, has_from g _ _ _ _ rows.left_at cells.left_at both.0, has_from h _ _ _ _ rows.right_at cells.right_at both.1)

-- and the other way
pub grids_from : (g h : Grid) (row column : ℕ) → grid_has g row column ≡ true → grid_has h row column ≡ true → grids_meet g h ≡ true
grids_from g h row column a b =
    let p = has_parts g row column a in
    let q = has_parts h row column b in
    pair_from rows_meet g h row p.0 q.0 p.1 q.1 (pair_from (λ a b. a && b) p.0 q.0 column true true p.2 q.2 refl)

-- a set with a cell
pub some_found : (g : Grid) → has_some g ≡ true → (row : ℕ) × (column : ℕ) × (grid_has g row column ≡ true)
some_found g m =
    let rows = one_found (λ row. list_any (λ cell. cell) row) g m in
    let cells = one_found (λ cell. cell) rows.value rows.holds in
    (rows.index, cells.index, has_from g _ _ _ _ rows.value_at cells.value_at cells.holds)

-- and the other way
pub some_from : (g : Grid) (row column : ℕ) → grid_has g row column ≡ true → has_some g ≡ true
some_from g row column a =
    let p = has_parts g row column a in
    one_from (λ row. list_any (λ cell. cell) row) g row p.0 p.1 (one_from (λ cell. cell) p.0 column true p.2 refl)

-- the cells of a set as large as its section's grid stand on the grid
pub grid_within : (depth : ℕ) (g : Grid) (row column : ℕ) → IsGrid depth g → grid_has g row column ≡ true
    → (row < side depth) × (column < side depth)
grid_within depth g row column size a =
    let p = has_parts g row column a in
    let inside : row < length g = slice_get_within g row p.0 p.1 in
    let wide = All-get_or (λ (cells : List Bool). length cells ≡ side depth) g row p.0 inside size.1 in
    let same = get_or_from_slice_get g row p.0 p.0 p.1 in
    let long : length p.0 ≡ side depth = sym (ap (λ (cells : List Bool). length cells) same) ∙ wide in
    (omega (arith, size.0), omega (arith, slice_get_within p.0 column true p.2))
