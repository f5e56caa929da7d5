-- The spot is filed under the nodes so far and those above them.
use Rattle.std.{proofs.Common.{◌≡◌, ◌&&◌, ◌||◌, take}, specs.List.{list_any}}
use Rattle.title_land.specs.{declared.node.Node.{Node}, Nodes.{same_node, is_above}}
use Rattle.title_chain.specs.{declared.spot.Spot.{Spot}, PostSpots.{same_spot, is_listed}, SpotMaps.{spots_under}}
use Rattle.title_chain.proofs.filing.Filing.file_cover.Given as goal

abbrev pub invariant-loop-node : goal.invariant-loop-node
invariant-loop-node l = record {
  read : l.self.read ≡ l.fn.self.read;
  at : (n : Node) (p : Spot) → is_listed p (spots_under l.self.at n)
      ≡ (is_listed p (spots_under l.fn.self.at n) || (list_any (same_node n) (take l.node-index l.cover) && same_spot p l.spot));
  below : (n : Node) (p : Spot) → is_listed p (spots_under l.self.below n)
      ≡ (is_listed p (spots_under l.fn.self.below n) || (list_any (is_above n) (take l.node-index l.cover) && same_spot p l.spot));
}
