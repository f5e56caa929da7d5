-- The copies so far, and room for the rest.
use Rattle.std.proofs.Common.{◌≡◌, ◌≤◌, ◌-◌, length, map, replicate, vec_capacity}
use Rattle.title_tree.specs.Trees.{plot}
use Rattle.title_tree_store.proofs.ground.copies.Given as goal

abbrev pub invariant-loop-alloc : goal.invariant-loop-alloc
invariant-loop-alloc l = record {
  copies : map plot l.trees.items ≡ replicate (length l.trees.items) (plot l.tree);
  within : length l.trees.items ≤ l.count;
  room : l.count ≤ vec_capacity l.trees;
}

abbrev pub decreases-loop-alloc : goal.decreases-loop-alloc
decreases-loop-alloc l = l.count - length l.trees.items
