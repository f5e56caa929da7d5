-- Maps from the numbers of nodes to lists of spots, and the order of spots.
use Rattle.std.specs.{Prelude.{ℕ, List, [], Option, Some, None}, declared.cmp.Ordering.{Ordering}, Ordering.{nat_cmp, ordering_then}}
use Rattle.std.specs.{Global.{Vec}, BTreeMap.{BTreeMap, get}}
use Rattle.title_land.specs.{declared.node.Node.{Node}, NodeNumbers.{node_number}}
use Rattle.title_chain.specs.declared.spot.Spot.{Spot}

-- the list, or none
abbrev pub spots_in : Option (Vec Spot) → List Spot
spots_in None = []
spots_in (Some spots) = spots.items

-- the spots under the node with this number
abbrev pub spots_numbered : BTreeMap ℕ (Vec Spot) → ℕ → List Spot
spots_numbered lists k = spots_in (get nat_cmp lists k)

-- the spots under a node
abbrev pub spots_under : BTreeMap ℕ (Vec Spot) → Node → List Spot
spots_under lists n = spots_numbered lists (node_number n)

-- spots by record, then by step
abbrev pub spot_cmp : Spot → Spot → Ordering
spot_cmp a b = ordering_then (nat_cmp a.record b.record) (nat_cmp a.step b.step)
