-- The cover of a set of cells, as a set of nodes, and its laws.
use Rattle.std.specs.Prelude.{◌≡◌, ℕ, Bool, true, false, ◌&&◌, ◌||◌, ◌↔◌, List, [], ◌∷◌, Some, reverse, is_some, find}
use Rattle.std.specs.List.{list_any, list_all, All}
use Rattle.title_land.specs.declared.{survey.Cell.{Cell}, rectangle.Quarter.{Quarter}, node.Node.{Node}, tract.Land.{Land}}
use Rattle.title_land.specs.declared.rectangle.Quarter.TheVariants.{Northeast, Northwest, Southwest, Southeast}
use Rattle.title_land.specs.{Survey.{is_on_grid, same_section}, Lands.{has, cover_of, meets, Meets, IsLand}}
use Rattle.title_land.specs.Nodes.{in_quarter, same_quarter, same_node, are_related, parent_of, node_has, is_above, IsNode}
use Rattle.title_land.specs.declared.node.Node.TheVariants as node

-- all cells of the node lie in the land; the whole plant has those of every township that has a name
abbrev pub LiesIn : ℕ → Land → Node → Type 0
LiesIn depth land n = (c : Cell) → is_on_grid depth c ≡ true → node_has depth n c ≡ true → has land c ≡ true

-- the node's cells all lie in the land and its parent's don't; the whole plant has no parent
pub record IsCoverNode (depth : ℕ) (land : Land) (n : Node) : Type 0 where
  pub lies_in : LiesIn depth land n
  pub parent_does_not : (p : Node) → parent_of n ≡ Some p → ¬ (LiesIn depth land p)

-- quarters are listed northeast, northwest, southwest, southeast
abbrev pub quarter_before : Quarter → Quarter → Bool
quarter_before Northeast = in_quarter false true true true
quarter_before Northwest = in_quarter false false true true
quarter_before Southwest = in_quarter false false false true
quarter_before Southeast = in_quarter false false false false

-- the order of squares by their quarters, the outermost first: a square comes before those in it
abbrev pub path_before : List Quarter → List Quarter → Bool
path_before p [] = false
path_before [] (b ∷ q) = true
path_before (a ∷ p) (b ∷ q) = quarter_before a b || (same_quarter a b && path_before p q)

-- the first node comes before the second, both squares of one section
abbrev pub comes_before : Node → Node → Bool
comes_before node.Everything n = false
comes_before (node.Township t) n = false
comes_before (node.Part s v) node.Everything = false
comes_before (node.Part s v) (node.Township t) = false
comes_before (node.Part s v) (node.Part u w) = same_section s u && path_before (reverse v) (reverse w)

-- each node comes before all after it
abbrev pub are_in_order : List Node → Bool
are_in_order [] = true
are_in_order (n ∷ nodes) = list_all (comes_before n) nodes && are_in_order nodes

-- the cover of the land: exactly the nodes whose cells all lie in it and whose parent's don't, in order
pub record IsCover (depth : ℕ) (land : Land) (nodes : List Node) : Type 0 where
  pub in_tree : All (IsNode depth) nodes
  pub members : (n : Node) → IsNode depth n → (list_any (same_node n) nodes ≡ true) ↔ IsCoverNode depth land n
  pub order : are_in_order nodes ≡ true

-- a cell lies in the land exactly where it lies in a node of its cover
abbrev pub CoverHasItsCells : ℕ → Type 0
CoverHasItsCells depth = (land : Land) (c : Cell) → is_on_grid depth c ≡ true
    → has land c ≡ list_any (λ n. node_has depth n c) (cover_of depth land)

-- a node of one cover is a node of the other, or one of them lies above the other
abbrev pub covers_meet : ℕ → Land → Land → Bool
covers_meet depth a b = list_any (λ m. list_any (are_related m) (cover_of depth b)) (cover_of depth a)

-- two lands share a cell exactly where two nodes of their covers are related
abbrev pub LandsShareACell : ℕ → Type 0
LandsShareACell depth = (a b : Land) → Meets depth a b ↔ (covers_meet depth a b ≡ true)

-- the test of two lands is that of their covers, where their sets are as large as a section's grid
abbrev pub MeetsByCovers : ℕ → Type 0
MeetsByCovers depth = (a b : Land) → IsLand depth a → IsLand depth b → meets a b ≡ covers_meet depth a b

-- no node of a cover lies above another
abbrev pub CoverNodesLieApart : ℕ → Type 0
CoverNodesLieApart depth = (land : Land) (m n : Node) → list_any (same_node m) (cover_of depth land) ≡ true
    → list_any (same_node n) (cover_of depth land) ≡ true → is_above m n ≡ false

-- the node that the cover gives a cell of the grid: one with the cell, and none exactly where the land doesn't have it
abbrev pub CoverFindsTheNode : ℕ → Type 0
CoverFindsTheNode depth = (land : Land) (c : Cell) → is_on_grid depth c ≡ true
    → (is_some (find (λ n. node_has depth n c) (cover_of depth land)) ≡ has land c)
    × ((n : Node) → find (λ n. node_has depth n c) (cover_of depth land) ≡ Some n → node_has depth n c ≡ true)
