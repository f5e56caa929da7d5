-- Laws of nodes.
use Rattle.std.specs.Prelude.{◌≡◌, ℕ, true, ◌↔◌, [], ◌∷◌, Some}
use Rattle.title_land.specs.{declared.{survey.Cell.{Cell}, node.Node.{Node}}, Survey.{is_on_grid}}
use Rattle.title_land.specs.Nodes.{same_node, parent_of, above, is_above, are_related, node_has, IsNode}
use Rattle.title_land.specs.declared.node.Node.TheVariants as node

-- a test of nodes is their equality: the same numbers and quarters make one node
abbrev pub SameNodesAreEqual : Type 0
SameNodesAreEqual = (a b : Node) → (same_node a b ≡ true) ↔ (a ≡ b)

-- what lies above a node that lies above a third lies above that
abbrev pub AboveIsTransitive : Type 0
AboveIsTransitive = (a b c : Node) → is_above a b ≡ true → is_above b c ≡ true → is_above a c ≡ true

-- a node that lies above another has its cells
abbrev pub AboveHasTheCells : ℕ → Type 0
AboveHasTheCells depth = (a b : Node) (c : Cell) → is_above a b ≡ true → node_has depth b c ≡ true → node_has depth a c ≡ true

-- two nodes share a cell exactly where they are one or one lies above the other (Gray, Lorie, Putzolu, Traiger,
-- Granularity of Locks and Degrees of Consistency, 1976: a lock on a node covers what lies below it)
abbrev pub NodesShareACell : ℕ → Type 0
NodesShareACell depth = (a b : Node) → IsNode depth a → IsNode depth b
    → ((c : Cell) × (is_on_grid depth c ≡ true) × (node_has depth a c ≡ true) × (node_has depth b c ≡ true)) ↔ (are_related a b ≡ true)

-- above a node lie its parent and what lies above that; nothing lies above the whole plant
abbrev pub AboveByParent : Type 0
AboveByParent = (above node.Everything ≡ []) × ((n p : Node) → parent_of n ≡ Some p → above n ≡ p ∷ above p)
