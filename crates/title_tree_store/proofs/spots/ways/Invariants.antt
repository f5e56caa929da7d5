-- The paths of the nodes so far are added.
use Rattle.std.{proofs.Common.{◌≡◌, take}, specs.List.{flat_map}}
use Rattle.title_tree_store.specs.Spots.{node_ways, paths_in}
use Rattle.title_tree_store.proofs.spots.ways.Given as goal

abbrev pub invariant-loop-node : goal.invariant-loop-node
invariant-loop-node l = paths_in l.paths ≡ flat_map node_ways (take l.node-index l.cover)
