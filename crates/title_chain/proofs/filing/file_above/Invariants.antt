-- The spot is filed under the nodes from the one with the number up to the one that was reached.
use Rattle.std.proofs.Common.{◌≡◌, ◌&&◌}
use Rattle.title_land.specs.{declared.node.Node.{Node}, NodeNumbers.{node_number}, Nodes.{same_node}}
use Rattle.title_chain.specs.{declared.spot.Spot.{Spot}, PostSpots.{same_spot, is_listed}, SpotMaps.{spots_under}}
use Rattle.title_chain.proofs.Filings.{IsClimbedTo}
use Rattle.title_chain.proofs.filing.file_above.Given as goal

abbrev pub invariant-loop-reached : goal.invariant-loop-reached
invariant-loop-reached l =
    (c : Node) → l.number ≡ node_number c → IsClimbedTo {X = Node × Spot} (λ x a. same_node x.0 a && same_spot x.1 l.spot)
    (λ x. is_listed x.1 (spots_under l.fn.lists x.0)) (λ x. is_listed x.1 (spots_under l.lists x.0)) c l.reached

abbrev pub decreases-loop-reached : goal.decreases-loop-reached
decreases-loop-reached l = l.reached
