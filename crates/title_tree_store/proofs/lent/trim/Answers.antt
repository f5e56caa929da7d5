-- An empty slot at the front has no image.
use Rattle.std.proofs.Common.{◌∙◌}
use Rattle.title_tree_store.proofs.Slots.{trimmed}
use Rattle.title_tree_store.proofs.lent.trim.Goals as goal

pub loop-slots-preserved : goal.loop-slots-preserved
loop-slots-preserved c =
    let less = trimmed c.loop-slots.slots.items c.pop_front.new.self.items c.in-Some-None.field-0.now c.in-Some-None.field-0-is
    c.in-Some-None.ensures.lookup c.pop_front.ensures.rest in
    let before = c.loop-slots.invariant in
    (less.0 ∙ before.0, λ next k. less.1 next (before.1 next k))
