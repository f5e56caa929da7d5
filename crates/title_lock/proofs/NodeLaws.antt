-- Nodes: the test of sameness is equality, and what lies above a node is its parent and what lies above that.
use Rattle.std.proofs.Common.{◌≡◌, ◌∷◌, true, false, Some, sym, arith}
use Rattle.title_land.specs.{declared.node.Node.{Node}, Nodes.{same_node, parent_of, above, is_above}}
use Rattle.title_land.specs.Laws.{SameNode.{same_node-self, same_node-to}, CoverSet.{above_by_parent}, NodeNumbers.{above_less}}

pub same_turned : (n c : Node) → same_node n c ≡ false → same_node c n ≡ false
same_turned n c h = grind (arith, same_node-to c n, same_node-self n)

-- above a node lie its parent and the nodes above that
pub above_of : (p c : Node) → Some c ≡ parent_of p → above p ≡ c ∷ above c
above_of p c h = above_by_parent.1 p c (sym h)

-- a node doesn't lie above itself
pub above_apart : (n c : Node) → same_node n c ≡ true → is_above n c ≡ false
above_apart n c h = grind (arith, same_node-to n c h, above_less c n)
