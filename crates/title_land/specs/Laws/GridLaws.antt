-- Sets of cells made from a test, and a rectangle added to a set.
use Rattle.std.proofs.Common.{◌≡◌, ℕ, ◌<◌, ◌≤◌, Bool, true, false, ◌&&◌, ◌||◌, List, Option, Some, None, map, length, nat_lt, refl, ap}
use Rattle.std.{proofs.Common.{◌∙◌, arith}, specs.{Prelude.{slice_get, option_and_then, unwrap_or}, List.{range_with_len}}}
use Rattle.std.proofs.lemmas.{Bool.{and_right, Decides.{nat_tests}}, Option.{slice_get-get_or, slice_get_past}}
use Rattle.std.proofs.lemmas.List.FromFn.{length-map-range_with_len, get_or-map-range_with_len}
use Rattle.title_land.specs.{declared.{grid.Grid.{Grid}, rectangle.Rectangle.{Rectangle}}, Survey.{side}, Rectangles.{holds, InSection}}
use Rattle.title_land.specs.Grids.{grid_has, grid_of, with_rectangle, indices, AddsRectangle}

-- a list made from the numbers below n, at one of them
made_at : {X : Type 0} (f : ℕ → X) (n i : ℕ) → i < n → slice_get (map f (range_with_len 0 n)) i ≡ Some (f i)
made_at {X = X} f n i h =
    let long : i < length (map f (range_with_len 0 n)) = omega (arith, length-map-range_with_len f 0 n) in
    slice_get-get_or (map f (range_with_len 0 n)) i (f i) long
    ∙ ap (λ (x : X). Some x) (get_or-map-range_with_len f 0 n i i (f i) h (omega arith))

-- and past them
made_past : {X : Type 0} (f : ℕ → X) (n i : ℕ) → n ≤ i → slice_get (map f (range_with_len 0 n)) i ≡ None
made_past f n i h = slice_get_past (map f (range_with_len 0 n)) i (omega (arith, length-map-range_with_len f 0 n))

abbrev row_get : Option (List Bool) → ℕ → Bool
row_get row column = unwrap_or (option_and_then (λ cells. slice_get cells column) row) false

-- on the grid, a cell lies in the set exactly where the test holds
pub grid_has-grid_of : (depth : ℕ) (test : ℕ → ℕ → Bool) (row column : ℕ) → row < side depth → column < side depth
    → grid_has (grid_of depth test) row column ≡ test row column
unfolding grid_of
grid_has-grid_of depth test row column r c =
    ap (λ (cells : Option (List Bool)). row_get cells column)
    (made_at (λ row. map (λ column. test row column) (indices depth)) (side depth) row r)
    ∙ ap (λ (cell : Option Bool). unwrap_or cell false) (made_at (λ column. test row column) (side depth) column c)

-- off the grid it has no cell
pub grid_of-rows : (depth : ℕ) (test : ℕ → ℕ → Bool) (row column : ℕ) → side depth ≤ row → grid_has (grid_of depth test) row column ≡ false
unfolding grid_of
grid_of-rows depth test row column r =
    ap (λ (cells : Option (List Bool)). row_get cells column)
    (made_past (λ row. map (λ column. test row column) (indices depth)) (side depth) row r)

-- nor past the last column
pub grid_of-columns : (depth : ℕ) (test : ℕ → ℕ → Bool) (row column : ℕ) → row < side depth → side depth ≤ column
    → grid_has (grid_of depth test) row column ≡ false
unfolding grid_of
grid_of-columns depth test row column r c =
    ap (λ (cells : Option (List Bool)). row_get cells column)
    (made_at (λ row. map (λ column. test row column) (indices depth)) (side depth) row r)
    ∙ ap (λ (cell : Option Bool). unwrap_or cell false) (made_past (λ column. test row column) (side depth) column c)

-- a set with a rectangle's cells added has, on the grid, its own cells and the rectangle's
pub grid_has-with_rectangle : (depth : ℕ) (g : Grid) (r : Rectangle) → AddsRectangle depth g r (with_rectangle depth g r)
unfolding with_rectangle
grid_has-with_rectangle depth g r row column in_rows in_columns =
    grid_has-grid_of depth (λ row column. grid_has g row column || holds r row column) row column in_rows in_columns

-- the test that it stands on the grid
abbrev pub on_side : ℕ → ℕ → ℕ → Bool
on_side depth row column = nat_lt row (side depth) && nat_lt column (side depth)

-- the same at each row and column
pub grid_has-everywhere : (depth : ℕ) (test : ℕ → ℕ → Bool) (row column : ℕ)
    → grid_has (grid_of depth test) row column ≡ (on_side depth row column && test row column)
grid_has-everywhere depth test row column = grind (arith, nat_tests, grid_has-grid_of, grid_of-rows, grid_of-columns)

-- the same of a set that equals it
pub adds_rectangle : (depth : ℕ) (g h : Grid) (r : Rectangle) → h ≡ with_rectangle depth g r → AddsRectangle depth g r h
adds_rectangle depth g h r e row column in_rows in_columns =
    ap (λ (x : Grid). grid_has x row column) e ∙ grid_has-with_rectangle depth g r row column in_rows in_columns

-- the set has no cell off the grid
abbrev pub StaysOnGrid : ℕ → Grid → Type 0
StaysOnGrid depth g = (row column : ℕ) → on_side depth row column ≡ false → grid_has g row column ≡ false

-- a set with a rectangle's cells added has none
pub with_rectangle-stays : (depth : ℕ) (g : Grid) (r : Rectangle) → StaysOnGrid depth (with_rectangle depth g r)
unfolding with_rectangle
with_rectangle-stays depth g r row column off =
    rw (grid_has-everywhere depth (λ row column. grid_has g row column || holds r row column) row column, off) refl

-- a rectangle inside the section holds no cell off the grid
pub inside_holds : (depth : ℕ) (r : Rectangle) (row column : ℕ) → InSection depth r → on_side depth row column ≡ false
    → holds r row column ≡ false
inside_holds depth r row column inside off = grind (arith, nat_tests)

-- a test of the grid may be left out where both others imply it
pub both_off : (a b on : Bool) → (on ≡ false → a ≡ false) → (on ≡ false → b ≡ false) → (on && (a || b)) ≡ (a || b)
both_off a b true f g = refl
both_off a b false f g = rw (f refl, g refl) refl

-- at each row and column, on the grid and off it
pub grid_has-with_inside : (depth : ℕ) (g : Grid) (r : Rectangle) → StaysOnGrid depth g → InSection depth r → (row column : ℕ)
    → grid_has (with_rectangle depth g r) row column ≡ (grid_has g row column || holds r row column)
unfolding with_rectangle
grid_has-with_inside depth g r stays inside row column =
    grid_has-everywhere depth (λ row column. grid_has g row column || holds r row column) row column
    ∙ both_off (grid_has g row column) (holds r row column) (on_side depth row column) (stays row column)
    (inside_holds depth r row column inside)

-- the set of no cell has none, on the grid or off it
pub has_none : (depth : ℕ) (g : Grid) → g ≡ grid_of depth (λ row column. false) → (row column : ℕ) → grid_has g row column ≡ false
has_none depth g e row column =
    ap (λ (x : Grid). grid_has x row column) e ∙ grid_has-everywhere depth (λ row column. false) row column
    ∙ and_right (on_side depth row column) false refl

-- the set of all cells has each on the grid
pub has_every : (depth : ℕ) (g : Grid) → g ≡ grid_of depth (λ row column. true) → (row column : ℕ) → row < side depth
    → column < side depth → grid_has g row column ≡ true
has_every depth g e row column r c = ap (λ (x : Grid). grid_has x row column) e ∙ grid_has-grid_of depth (λ row column. true) row column r c

-- a rectangle added to no cells
pub with_rectangle-empty : (depth : ℕ) (g : Grid) (r : Rectangle) → ((row column : ℕ) → grid_has g row column ≡ false)
    → with_rectangle depth g r ≡ grid_of depth (holds r)
unfolding with_rectangle
with_rectangle-empty depth g r none = λ i. grid_of depth (λ row column. none row column i || holds r row column)
