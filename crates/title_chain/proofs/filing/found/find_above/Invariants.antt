-- The spots were found under the nodes from the one with the number up to the one that was reached.
use Rattle.std.proofs.Common.{◌≡◌}
use Rattle.title_land.specs.{declared.node.Node.{Node}, NodeNumbers.{node_number}}
use Rattle.title_chain.{specs.{declared.spot.Spot.{Spot}, PostSpots.{is_listed}, SpotMaps.{spots_under}}, proofs.Filings.{IsClimbedTo}}
use Rattle.title_chain.proofs.filing.found.find_above.Given as goal

abbrev pub invariant-loop-reached : goal.invariant-loop-reached
invariant-loop-reached l = (c : Node) → l.number ≡ node_number c → IsClimbedTo {X = Spot} (λ p a. is_listed p (spots_under l.filing.at a))
    (λ p. is_listed p l.fn.found.items) (λ p. is_listed p l.found.items) c l.reached

abbrev pub decreases-loop-reached : goal.decreases-loop-reached
decreases-loop-reached l = l.reached
