-- The spots near the nodes so far were found.
use Rattle.std.{proofs.Common.{◌≡◌, take}, specs.List.{list_any}}
use Rattle.title_chain.specs.{declared.spot.Spot.{Spot}, PostSpots.{is_listed}, TractIndexes.{is_near}}
use Rattle.title_chain.proofs.filing.Filing.find.Given as goal

abbrev pub invariant-loop-node : goal.invariant-loop-node
invariant-loop-node l = record {
  found : (p : Spot) → is_listed p l.found.spots.items ≡ list_any (is_near l.self p) (take l.node-index l.cover);
  filing : l.found.filing.now ≡ l.self;
}
