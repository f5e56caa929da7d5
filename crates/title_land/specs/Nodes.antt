-- Nodes of the tree of tracts, and the cells that each has. A square of a section is seen as its quarters, the innermost first.
use Rattle.std.specs.{Prelude.{ℕ, ◌≤◌, Bool, true, false, ◌&&◌, ◌||◌, List, [], ◌∷◌, ◌++◌, length, Option, Some, None}, List.{list_any}}
use Rattle.title_land.specs.declared.{survey.{Section.{Section}, Cell.{Cell}}, rectangle.{Quarter.{Quarter}, Rectangle.{Rectangle}}}
use Rattle.title_land.specs.declared.{rectangle.Quarter.TheVariants.{Northeast, Northwest, Southwest, Southeast}, node.Node.{Node}}
use Rattle.title_land.specs.{Survey.{same_township, same_section}, Rectangles.{section_square, quarter_of, holds}}
use Rattle.title_land.specs.declared.node.Node.TheVariants as node

-- the cells of the square with these quarters
abbrev pub square : ℕ → List Quarter → Rectangle
square depth [] = section_square depth
square depth (q ∷ quarters) = quarter_of q (square depth quarters)

-- the quarters in their order
abbrev pub quarters : List Quarter
quarters = Northeast ∷ Northwest ∷ Southwest ∷ Southeast ∷ []

abbrev pub in_quarter : Bool → Bool → Bool → Bool → Quarter → Bool
in_quarter a b c d Northeast = a
in_quarter a b c d Northwest = b
in_quarter a b c d Southwest = c
in_quarter a b c d Southeast = d

abbrev pub same_quarter : Quarter → Quarter → Bool
same_quarter Northeast = in_quarter true false false false
same_quarter Northwest = in_quarter false true false false
same_quarter Southwest = in_quarter false false true false
same_quarter Southeast = in_quarter false false false true

abbrev pub same_path : List Quarter → List Quarter → Bool
same_path [] [] = true
same_path [] (b ∷ q) = false
same_path (a ∷ p) [] = false
same_path (a ∷ p) (b ∷ q) = same_quarter a b && same_path p q

-- the nodes are one
abbrev pub same_node : Node → Node → Bool
same_node node.Everything node.Everything = true
same_node node.Everything (node.Township u) = false
same_node node.Everything (node.Part u w) = false
same_node (node.Township t) node.Everything = false
same_node (node.Township t) (node.Township u) = same_township t u
same_node (node.Township t) (node.Part u w) = false
same_node (node.Part s v) node.Everything = false
same_node (node.Part s v) (node.Township u) = false
same_node (node.Part s v) (node.Part u w) = same_section s u && same_path v w

-- the node is a square of a section
abbrev pub is_square : Node → Bool
is_square node.Everything = false
is_square (node.Township t) = false
is_square (node.Part s w) = true

-- the square above, which for the section's own is the township
abbrev pub parent_in : Section → List Quarter → Node
parent_in s [] = node.Township s.township
parent_in s (q ∷ quarters) = node.Part s quarters

-- the node above; the whole plant has none
abbrev pub parent_of : Node → Option Node
parent_of node.Everything = None
parent_of (node.Township t) = Some node.Everything
parent_of (node.Part s w) = Some (parent_in s w)

-- the squares above one with these quarters, the nearest first
abbrev pub above_in : Section → List Quarter → List Node
above_in s [] = []
above_in s (q ∷ quarters) = node.Part s quarters ∷ above_in s quarters

-- the nodes above a node, the nearest first
abbrev pub above : Node → List Node
above node.Everything = []
above (node.Township t) = node.Everything ∷ []
above (node.Part s w) = above_in s w ++ (node.Township s.township ∷ node.Everything ∷ [])

-- the first node lies above the second
abbrev pub is_above : Node → Node → Bool
is_above a b = list_any (same_node a) (above b)

-- the nodes are one, or one lies above the other
abbrev pub are_related : Node → Node → Bool
are_related a b = same_node a b || (is_above a b || is_above b a)

-- the cell lies in the node; the whole plant has the cells of every township that has a name
abbrev pub node_has : ℕ → Node → Cell → Bool
node_has depth node.Everything c = true
node_has depth (node.Township t) c = same_township t c.section.township
node_has depth (node.Part s w) c = same_section s c.section && holds (square depth w) c.row c.column

-- the node is one of the tree: a square has no more quarters than the depth, so it has a cell
abbrev pub IsNode : ℕ → Node → Type 0
IsNode depth node.Everything = Unit {0}
IsNode depth (node.Township t) = Unit {0}
IsNode depth (node.Part s w) = length w ≤ depth
