-- The trees that are made so far, and room for the rest.
use Rattle.std.proofs.Common.{◌≡◌, ◌≤◌, ◌<◌, ℕ, None, length, map, take, get_or, vec_capacity}
use Rattle.title_tree.specs.{Changes.{after}, Plots.{changed, first_refusal}, Trees.{plot}}
use Rattle.title_tree_store.specs.Grounds.{nothing}
use Rattle.title_tree_store.proofs.ground.changed_each.Given as goal

abbrev pub invariant-loop-tree : goal.invariant-loop-tree
invariant-loop-tree g l = record {
  none : (j : ℕ) → j < l.tree-index → first_refusal (g.C.Change.effect l.fn.change) (get_or (map plot l.trees) j nothing) ≡ None;
  new : map plot l.made.items ≡ map (changed (after (g.C.Change.effect l.fn.change))) (map plot (take l.tree-index l.trees));
  same : g.C.Change.effect l.change ≡ g.C.Change.effect l.fn.change;
  count : length l.made.items ≡ l.tree-index;
  room : length l.trees ≤ vec_capacity l.made;
}
