-- The images stay, and their slots' numbers.
use Rattle.std.proofs.Common.{◌≡◌, ℕ, length}
use Rattle.title_tree_store.specs.Slots.{filled, IsNumbered}
use Rattle.title_tree_store.proofs.lent.trim.Given as goal

abbrev pub invariant-loop-slots : goal.invariant-loop-slots
invariant-loop-slots l = (filled l.slots.items ≡ filled l.fn.slots.items)
    × ((next : ℕ) → IsNumbered next l.fn.slots.items → IsNumbered next l.slots.items)

abbrev pub decreases-loop-slots : goal.decreases-loop-slots
decreases-loop-slots l = length l.slots.items
