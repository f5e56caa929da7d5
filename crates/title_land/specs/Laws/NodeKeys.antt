-- Nodes that compare alike are one, so that a map finds a node exactly at that node.
use Rattle.std.{proofs.Common.{◌≡◌, refl, ap}, specs.{declared.cmp.Ordering.{Ordering, TheVariants.{Equal}}, Cmp.{tied_itself}}}
use Rattle.std.{specs.BTreeMap.{is_at}, proofs.lemmas.Map.Lookups.{exact_unsigned}}
use Rattle.title_land.specs.{declared.node.{Within.{Within}, Node.{Node}}, Nodes.{same_node}, Orders.{section_cmp, node_cmp}}
use Rattle.title_land.specs.{Paths.{path_number}, Laws.{PathNumbers.{path_number-is}, SameNode.{same_node-self, same_node-is}}}
use Rattle.title_land.specs.Laws.Keys.{found_at, then_parts, township_tied, section_tied}
use Rattle.title_land.specs.declared.node.Node.TheVariants as node
use Rattle.title_land.specs.contracts.node.WithinOrd.TheImpl as within_ord
use Rattle.title_land.specs.contracts.node.NodeOrd.TheImpl.Laws as node_laws

-- ---- squares

abbrev within_cmp : Within → Within → Ordering
within_cmp = (within_ord.ghosts).cmp

within_tied : (v w : Within) → within_cmp v w ≡ Equal → v ≡ w
within_tied v w h = path_number-is v w (exact_unsigned (path_number v) (path_number w) h)

-- ---- nodes

node_tied : (a b : Node) → node_cmp a b ≡ Equal → a ≡ b
node_tied node.Everything node.Everything h = refl
node_tied (node.Township t) (node.Township u) h = ap node.Township (township_tied t u h)
node_tied (node.Part s v) (node.Part u w) h =
    let parts = then_parts (section_cmp s u) (within_cmp v w) h in rw (section_tied s u parts.0, within_tied v w parts.1) refl
node_tied a b h = absurd cc

node_self : (a : Node) → node_cmp a a ≡ Equal
node_self a = tied_itself node_laws.total-law a

-- a map finds a node exactly at that node
pub node_at : (a q : Node) → is_at (node_cmp a) q ≡ same_node q a
node_at a q = found_at node_cmp same_node a q ((same_node-is q a).0) (node_tied a q) (node_self a) (same_node-self a)
