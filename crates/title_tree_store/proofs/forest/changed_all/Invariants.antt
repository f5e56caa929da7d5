-- The townships that are made so far, and room for the rest.
use Rattle.std.proofs.Common.{◌≡◌, ◌≤◌, ◌<◌, ℕ, None, length, vec_capacity}
use Rattle.title_instrument.specs.Effect.{holding_effect}
use Rattle.title_tree.specs.{Changes.{after}, Plots.{changed, first_refusal}}
use Rattle.title_tree_store.specs.Grounds.{plot_in, parted_in}
use Rattle.title_tree_store.proofs.forest.changed_all.Given as goal

abbrev pub invariant-loop-ground : goal.invariant-loop-ground
invariant-loop-ground l = record {
  none : (i : ℕ) → i < l.ground-index → (j : ℕ) → j < 36
      → first_refusal (holding_effect l.fn.passing.instrument l.fn.passing.estate) (plot_in l.grounds i j) ≡ None;
  new : (i j : ℕ) → i < length l.made.items → j < 36
      → plot_in l.made.items i j ≡ changed (after (holding_effect l.fn.passing.instrument l.fn.passing.estate)) (plot_in l.grounds i j);
  parted : (i : ℕ) → i < length l.made.items → parted_in l.made.items i ≡ parted_in l.grounds i;
  same : holding_effect l.passing.instrument l.passing.estate ≡ holding_effect l.fn.passing.instrument l.fn.passing.estate;
  count : length l.made.items ≡ l.ground-index;
  room : length l.grounds ≤ vec_capacity l.made;
}
