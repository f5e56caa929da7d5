-- What the text of a plant's file says of land, and how a land is spelled there.
use Rattle.std.specs.Prelude.{ℕ, ◌&&◌, cond, nat_le, Bool, true, false, List, [], ◌∷◌, ◌++◌, codes, length, Option, Some, None, Result, Ok}
use Rattle.std.specs.List.{join_by}
use Rattle.title_land.specs.{declared.{grid.Grid.{Grid}, node.Node.{Node}, survey.Section.{Section}, tract.Land.{Land}}, Depth.{depth}}
use Rattle.title_land.specs.{Grids.{has_some}, Lands.{cover_of}, Survey.{same_flag, same_section}}
use Rattle.title_land.specs.Texts.{node_text, path_text, section_text}
use Rattle.title_land.specs.declared.node.Node.TheVariants as node
use Rattle.title_land.specs.declared.tract.Land.TheVariants as land
use Rattle.title_aliquot.specs.declared.fault.DescFault.{DescFault}
use Rattle.title_spelling.specs.Cells.{cells_in, spelled_cells}
use Rattle.title_plan.specs.Lands.{land_in}

-- ---- what is read

-- a text in the cells form says that part of the section
abbrev pub kept_or : Option Land → Result Land DescFault → Result Land DescFault
kept_or (Some l) said = Ok l
kept_or None said = said

-- what a text in a plant's file says: any text that isn't in the cells form says what it says in a script
abbrev pub kept_land_in : List ℕ → Result Land DescFault
kept_land_in text = kept_or (cells_in text) (land_in text)

-- ---- what is written

-- the most bytes of a union
abbrev pub longest_union : ℕ
longest_union = 1000

-- what a node's quarters add to its section's text
abbrev pub path_of : Node → List ℕ
path_of node.Everything = []
path_of (node.Township t) = []
path_of (node.Part s w) = path_text w

-- squares of a section as a union, as `T3N R2W sec 5 NE1/4, SE1/4SW1/4`
abbrev pub union_text : Section → List Node → List ℕ
union_text s nodes = section_text s ++ join_by path_of (codes ",") nodes

-- the rows of cells are one
abbrev pub same_row : List Bool → List Bool → Bool
same_row [] [] = true
same_row [] (d ∷ other) = false
same_row (c ∷ row) [] = false
same_row (c ∷ row) (d ∷ other) = same_flag c d && same_row row other

-- the sets of cells are one
abbrev pub same_cells : Grid → Grid → Bool
same_cells [] [] = true
same_cells [] (d ∷ other) = false
same_cells (c ∷ rows) [] = false
same_cells (c ∷ rows) (d ∷ other) = same_row c d && same_cells rows other

-- what a text says is this part of the section
abbrev pub is_part : Section → Grid → Result Land DescFault → Bool
is_part s g (Ok (land.Part u h)) = same_section s u && same_cells g h
is_part s g _ = false

-- a part of a section by a union that isn't too long and is read as it, or else by its cells
abbrev pub union_or_cells : Section → Grid → List ℕ → List ℕ
union_or_cells s g union =
    cond (nat_le (length union) longest_union && is_part s g (kept_land_in union)) union (spelled_cells s g)

-- a part of a section by the nodes of its cover: by the text of the one node, or by their union or its cells
abbrev pub part_spelling : Section → Grid → List Node → List ℕ
part_spelling s g (n ∷ []) = node_text n
part_spelling s g nodes = union_or_cells s g (union_text s nodes)

-- how a land is spelled
abbrev pub spelling : Land → List ℕ
spelling land.Everything = node_text node.Everything
spelling (land.Township t) = node_text (node.Township t)
spelling (land.Part s g) = part_spelling s g (cover_of depth (land.Part s g))

-- ---- laws

-- it is a land that has a cell
abbrev pub has_a_cell : Land → Bool
has_a_cell land.Everything = true
has_a_cell (land.Township t) = true
has_a_cell (land.Part s g) = has_some g
