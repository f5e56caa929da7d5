-- Cells and nodes in their order: townships as declared, sections 1 to 36, quarters NE, NW, SW, SE.
use Rattle.std.specs.Prelude.{◌≡◌, ℕ, zero, suc, ◌+◌, ◌-◌, Bool, true, false, ◌&&◌, ◌==◌, List, [], ◌∷◌, ◌++◌, map, filter, length}
use Rattle.std.{specs.{Prelude.{nat_le, nat_lt, refl, if◌then◌else◌}, List.{flat_map}}, proofs.lemmas.Bool.{leb-true}}
use Rattle.title_land.specs.declared.{survey.{Township.{Township}, Section.{Section}, Cell.{Cell}}, rectangle.Quarter.{Quarter}}
use Rattle.title_land.specs.{declared.{rectangle.Rectangle.{Rectangle}, node.Node.{Node}, tract.Land.{Land}}, Survey.{same_section}}
use Rattle.title_land.specs.{Nodes.{square, quarters, node_has}, Lands.{has}}
use Rattle.title_land.specs.declared.node.Node.TheVariants as node

-- the cells are one
abbrev pub same_cell : Cell → Cell → Bool
same_cell a b = (same_section a.section b.section && a.row == b.row) && a.column == b.column

pub both_true : (a b : Bool) → (a && b) ≡ true → (a ≡ true) × (b ≡ true)
both_true true b e = (refl, e)
both_true false true e = (e, refl)
both_true false false e = (e, e)

-- the township's section of this number, where there is one
unfoldable pub section_if : (t : Township) (n : ℕ) (b : Bool) → (nat_le 1 n && nat_le n 36) ≡ b → List Section
section_if t n true e = record {
  township = t;
  number = n;
  numbered = (leb-true 1 n (both_true _ _ e).0, leb-true n 36 (both_true _ _ e).1);
} ∷ []
section_if t n false e = []

-- so many of a township's sections, from this number on
abbrev pub sections_from : Township → ℕ → ℕ → List Section
sections_from t n zero = []
sections_from t n (suc count) = section_if t n (nat_le 1 n && nat_le n 36) refl ++ sections_from t (n + 1) count

-- the sections of a township, 1 to 36
unfoldable pub sections_of : Township → List Section
sections_of t = sections_from t 1 36

-- those of them from a number on
unfoldable pub sections_left : Township → ℕ → List Section
sections_left t n = sections_from t n (37 - n)

-- the cell in the northwest corner of a square, which is the square's only cell where it has one
abbrev pub corner_of : Section → Rectangle → Cell
corner_of s r = record { section = s; row = r.top; column = r.left }

-- the cells of a square with so many levels below it, in the order of its quarters
abbrev pub cells_below : ℕ → Section → ℕ → List Quarter → List Cell
cells_below depth s zero path = corner_of s (square depth path) ∷ []
cells_below depth s (suc levels) path = flat_map (λ q. cells_below depth s levels (q ∷ path)) quarters

-- the cells of a section, in order
abbrev pub section_cells : ℕ → Section → List Cell
section_cells depth s = cells_below depth s depth []

-- the cells of a square of a section, by its node
abbrev pub part_cells : ℕ → Section → Node → List Cell
part_cells depth s node.Everything = []
part_cells depth s (node.Township t) = []
part_cells depth s (node.Part u path) = cells_below depth s (depth - length path) path

-- the cells of a township, in order
abbrev pub township_cells : ℕ → Township → List Cell
township_cells depth t = flat_map (section_cells depth) (sections_of t)

-- the cells of the plant, in order
unfoldable pub plant_cells : ℕ → List Township → List Cell
plant_cells depth townships = flat_map (township_cells depth) townships

-- the cells of a tract in the plant, in order
unfoldable pub cells_of : ℕ → List Township → Land → List Cell
cells_of depth townships land = filter (has land) (plant_cells depth townships)

-- the cells of a node in the plant, in order
unfoldable pub node_cells : ℕ → List Township → Node → List Cell
node_cells depth townships n = filter (node_has depth n) (plant_cells depth townships)

-- the nodes right below a node, in order; those of the whole plant are the declared townships, a cell has none
abbrev pub children_of : ℕ → List Township → Node → List Node
children_of depth townships node.Everything = map (λ t. node.Township t) townships
children_of depth townships (node.Township t) = map (λ s. node.Part s []) (sections_of t)
children_of depth townships (node.Part s w) =
    if nat_lt (length w) depth then map (λ q. node.Part s (q ∷ w)) quarters else []

-- the first and the last section, and how many there are
pub sections_are_36 : (t : Township) → length (sections_of t) ≡ 36
unfolding sections_of section_if
sections_are_36 t = refl
