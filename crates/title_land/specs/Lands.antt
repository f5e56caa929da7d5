-- What a tract is: every cell, a township, or a set of one section's cells.
use Rattle.std.specs.{Prelude.{◌≡◌, ℕ, Bool, true, false, ◌&&◌, List, [], ◌∷◌, not}, List.{list_any}}
use Rattle.title_land.specs.{declared.{survey.{Township.{Township}, Cell.{Cell}}, node.Node.{Node}, tract.Land.{Land}}, Survey.{is_on_grid}}
use Rattle.title_land.specs.{declared.{survey.Section.{Section}, rectangle.{Half.{Half}, Quarter.{Quarter}}}, Nodes.{square}}
use Rattle.title_land.specs.Grids.{grid_has, grid_of, has_some, grids_meet, IsGrid}
use Rattle.title_land.specs.Rectangles.{half_of, first_quarter, second_quarter, holds}
use Rattle.title_land.specs.{Survey.{same_township, same_section}, Covers.{section_cover}}
use Rattle.title_land.specs.declared.node.Node.TheVariants as node
use Rattle.title_land.specs.declared.tract.Land.TheVariants as land

-- the cell lies in the tract
unfoldable pub has : Land → Cell → Bool
has land.Everything c = true
has (land.Township t) c = same_township t c.section.township
has (land.Part s g) c = same_section s c.section && grid_has g c.row c.column

-- the nodes whose cells all lie in the tract and whose parent's don't, in order
unfoldable pub cover_of : ℕ → Land → List Node
cover_of depth land.Everything = node.Everything ∷ []
cover_of depth (land.Township t) = node.Township t ∷ []
cover_of depth (land.Part s g) = section_cover depth s (grid_has g)

abbrev pub is_empty : List Township → Bool
is_empty [] = true
is_empty (t ∷ ts) = false

-- the tract names no township that isn't declared; every cell needs one township at least
abbrev pub is_in_plant : List Township → Land → Bool
is_in_plant townships land.Everything = not (is_empty townships)
is_in_plant townships (land.Township t) = list_any (same_township t) townships
is_in_plant townships (land.Part s g) = list_any (same_township s.township) townships

-- a cell of the plant: on the grid, in a declared township
abbrev pub is_plant_cell : ℕ → List Township → Cell → Bool
is_plant_cell depth townships c = is_on_grid depth c && list_any (same_township c.section.township) townships

-- the tracts share a cell, computed; the law beside it says so by cells
unfoldable pub meets : Land → Land → Bool
meets land.Everything land.Everything = true
meets land.Everything (land.Township u) = true
meets land.Everything (land.Part u h) = has_some h
meets (land.Township t) land.Everything = true
meets (land.Township t) (land.Township u) = same_township t u
meets (land.Township t) (land.Part u h) = same_township t u.township && has_some h
meets (land.Part s g) land.Everything = has_some g
meets (land.Part s g) (land.Township u) = same_township s.township u && has_some g
meets (land.Part s g) (land.Part u h) = same_section s u && grids_meet g h

-- the tracts share a cell
abbrev pub Meets : ℕ → Land → Land → Type 0
Meets depth a b = (c : Cell) × (is_on_grid depth c ≡ true) × (has a c ≡ true) × (has b c ≡ true)

-- a part's set is as large as its section's grid
abbrev pub IsLand : ℕ → Land → Type 0
IsLand depth land.Everything = Unit {0}
IsLand depth (land.Township t) = Unit {0}
IsLand depth (land.Part s g) = IsGrid depth g

-- the land that has a node's cells
abbrev pub land_of : ℕ → Node → Land
land_of depth node.Everything = land.Everything
land_of depth (node.Township t) = land.Township t
land_of depth (node.Part s w) = land.Part s (grid_of depth (holds (square depth w)))

-- the land that has the cells of a half of a square
abbrev pub half_land : ℕ → Section → Half → List Quarter → Land
half_land depth s h w = land.Part s (grid_of depth (holds (half_of h (square depth w))))

-- the two squares that it is, in order
abbrev pub half_nodes : Section → Half → List Quarter → List Node
half_nodes s h w = node.Part s (first_quarter h ∷ w) ∷ node.Part s (second_quarter h ∷ w) ∷ []

-- where a tract lies, by one node: the section that has it, or else the township, or the whole plant
abbrev pub home_of : Land → Node
home_of land.Everything = node.Everything
home_of (land.Township t) = node.Township t
home_of (land.Part s g) = node.Part s []
