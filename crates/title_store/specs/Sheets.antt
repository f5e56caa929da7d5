-- Sheets: who owns what in a tract.
use Rattle.std.specs.Prelude.{ℕ, zero, suc, ◌+◌, Bool, true, false, cond, ◌&&◌, ◌==◌, List, [], ◌∷◌, Option, Some, None, map}
use Rattle.std.specs.List.{list_all, flat_map}
use Rattle.title_share.specs.Division.{Division, rows_of}
use Rattle.title_land.specs.{declared.{survey.{Cell.{Cell}, Township.{Township}}, node.Node.{Node}, tract.Land.{Land}}, Lands.{cover_of}}
use Rattle.title_land.specs.CellLists.{node_cells, children_of}
use Rattle.title_instrument.specs.{declared.parts.Estate.{Estate, TheVariants.{S, O, M}}, Owners.{holding_of}}
use Rattle.title_store.specs.{declared.sheet_row.SheetRow.{SheetRow}, Plants.{Plant}}

abbrev pub same_entries : List (ℕ × ℕ) → List (ℕ × ℕ) → Bool
same_entries [] [] = true
same_entries [] (y ∷ more) = false
same_entries (x ∷ rows) [] = false
same_entries (x ∷ rows) (y ∷ more) = (x.0 == y.0 && x.1 == y.1) && same_entries rows more

-- two divisions of a whole are one
abbrev pub same_division : Division → Division → Bool
same_division d e = same_entries (rows_of d) (rows_of e)

-- the one holding that all these cells have of an estate, where they have one
abbrev pub one_holding : Estate → Plant → List Cell → Option Division
one_holding e plant [] = None
one_holding e plant (c ∷ cells) =
    cond (list_all (λ other. same_division (holding_of e (plant other)) (holding_of e (plant c))) cells)
    (Some (holding_of e (plant c))) None

-- one row for each entry of a holding
abbrev pub holding_rows : Node → Estate → Division → List SheetRow
holding_rows node e held = map (λ r. record { node = node; estate = e; party = r.0; units = r.1 }) (rows_of held)

abbrev pub rows_or : Node → Estate → Option Division → List SheetRow → List SheetRow
rows_or node e None parts = parts
rows_or node e (Some held) parts = holding_rows node e held

-- the sheet of a node with so many levels of nodes below it: one row for each entry where all its cells in the plant have
-- one holding, else the sheets of its children in order
abbrev pub sheet_below : ℕ → ℕ → List Township → Plant → Estate → Node → List SheetRow
sheet_below zero depth townships plant e node = rows_or node e (one_holding e plant (node_cells depth townships node)) []
sheet_below (suc levels) depth townships plant e node =
    rows_or node e (one_holding e plant (node_cells depth townships node))
    (flat_map (sheet_below levels depth townships plant e) (children_of depth townships node))

abbrev pub estates : List Estate
estates = S ∷ O ∷ M ∷ []

-- the part of a tract's sheet for one estate: each node of the cover in order
abbrev pub estate_sheet : ℕ → List Township → Plant → Land → Estate → List SheetRow
estate_sheet depth townships plant land e = flat_map (sheet_below (depth + 2) depth townships plant e) (cover_of depth land)

-- the sheet of a tract: for each estate in order and each node of the cover in order. Below the whole plant stand its
-- townships, their sections and as many levels as a section is quartered.
unfoldable pub sheet_of : ℕ → List Township → Plant → Land → List SheetRow
sheet_of depth townships plant land =
    flat_map (λ e. flat_map (sheet_below (depth + 2) depth townships plant e) (cover_of depth land)) estates
