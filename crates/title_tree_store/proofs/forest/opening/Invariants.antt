-- The townships so far, and room for the rest.
use Rattle.std.proofs.Common.{◌≡◌, ◌≤◌, ◌<◌, ◌-◌, ℕ, false, length, vec_capacity}
use Rattle.title_share.specs.Division.{all_to}
use Rattle.title_tree.specs.Plots.{Same}
use Rattle.title_tree_store.specs.Grounds.{plot_in, closable_in}
use Rattle.title_tree_store.proofs.forest.opening.Given as goal

abbrev pub invariant-loop-held : goal.invariant-loop-held
invariant-loop-held l = record {
  opening : (i j : ℕ) → i < length l.grounds.items → j < 36 → plot_in l.grounds.items i j ≡ Same (all_to 0);
  closed : (i : ℕ) → closable_in l.grounds.items i ≡ false;
  within : length l.grounds.items ≤ l.count;
  room : l.count ≤ vec_capacity l.grounds;
}

abbrev pub decreases-loop-held : goal.decreases-loop-held
decreases-loop-held l = l.count - length l.grounds.items
