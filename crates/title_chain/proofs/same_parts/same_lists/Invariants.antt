-- The lists are one exactly where what is left of them is.
use Rattle.std.proofs.Common.{◌≡◌, ◌↔◌, length}
use Rattle.title_chain.proofs.same_parts.same_lists.Given as goal

abbrev pub invariant-loop-item : goal.invariant-loop-item
invariant-loop-item g l = ((l.item-iterator.a.rest.now ≡ l.item-iterator.b.rest.now) ↔ (l.a ≡ l.b))
    × (length l.item-iterator.a.rest.now ≡ length l.item-iterator.b.rest.now)
