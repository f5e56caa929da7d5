-- Sets of cells that are equal, and the set of a sole node.
use Rattle.std.proofs.Common.{◌≡◌, ◌∙◌, ℕ, ◌<◌, Bool, false, List, [], Option, length, map, get_or, sym, ap, arith}
use Rattle.std.{specs.Prelude.{slice_get, option_and_then, unwrap_or}, proofs.lemmas.List.{Elements.{All-get_or}, FromFn.{fill_by_all}}}
use Rattle.std.proofs.lemmas.Option.{slice_get-get_or}
use Rattle.title_land.specs.{declared.grid.Grid.{Grid}, Grids.{grid_has, grid_of, indices, IsGrid}, Survey.{side}}

abbrev cell_of : Option (List Bool) → ℕ → Bool
cell_of row column = unwrap_or (option_and_then (λ cells. slice_get cells column) row) false

-- a set's row and column as lists have them
cell_read : (g : Grid) (row column : ℕ) → row < length g → column < length (get_or g row []) →
    grid_has g row column ≡ get_or (get_or g row []) column false
cell_read g row column r c =
    ap (λ (cells : Option (List Bool)). cell_of cells column) (slice_get-get_or g row [] r)
    ∙ ap (λ (cell : Option Bool). unwrap_or cell false) (slice_get-get_or (get_or g row []) column false c)

-- a set as large as the grid is that of a test which holds exactly at its cells
pub grid_is : (d : ℕ) (g : Grid) (test : ℕ → ℕ → Bool) → IsGrid d g
    → ((row column : ℕ) → row < side d → column < side d → grid_has g row column ≡ test row column) → g ≡ grid_of d test
unfolding grid_of
grid_is d g test sized same =
    fill_by_all (λ row. map (λ column. test row column) (indices d)) g (side d) [] sized.0 (λ row r.
    let long : length (get_or g row []) ≡ side d =
    All-get_or (λ (cells : List Bool). length cells ≡ side d) g row [] (omega (arith, sized.0)) sized.1 in
    fill_by_all (λ column. test row column) (get_or g row []) (side d) false long (λ column c.
    sym (cell_read g row column (omega (arith, sized.0)) (omega (arith, long))) ∙ same row column r c))
