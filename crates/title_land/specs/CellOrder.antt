-- The order of a tract's cells is that of the nodes of its cover.
use Rattle.std.specs.{Prelude.{◌≡◌, ℕ, Bool, true, false, not, ◌&&◌, ◌||◌, List, [], ◌∷◌}, List.{list_any}}
use Rattle.title_land.specs.declared.{survey.{Township.{Township}, Cell.{Cell}}, node.Node.{Node}, tract.Land.{Land}}
use Rattle.title_land.specs.{Nodes.{same_node, node_has}, Lands.{cover_of, is_plant_cell}, CellLists.{same_cell, cells_of}}

-- who goes through the list meets x before the first y
abbrev pub is_met_before : {A : Type 0} → (A → A → Bool) → List A → A → A → Bool
is_met_before same [] x y = false
is_met_before same (z ∷ zs) x y = not (same y z) && (same x z || is_met_before same zs x y)

-- of two nodes of a cover, the cells of the one that is listed first are listed before those of the other
abbrev pub CellsFollowTheCover : ℕ → Type 0
CellsFollowTheCover depth = (townships : List Township) (land : Land) (m n : Node) (c e : Cell)
    → is_met_before same_node (cover_of depth land) m n ≡ true → list_any (same_node n) (cover_of depth land) ≡ true
    → node_has depth m c ≡ true → node_has depth n e ≡ true → is_plant_cell depth townships c ≡ true
    → is_met_before same_cell (cells_of depth townships land) c e ≡ true
