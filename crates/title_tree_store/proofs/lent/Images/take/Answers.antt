-- The image of the number leaves its slot.
use Rattle.title_tree_store.proofs.Slots.{numbered_empty, taken_at}
use Rattle.title_tree_store.proofs.lent.Images.take.Goals as goal

pub invariant_of-self : goal.invariant_of-self
invariant_of-self c = record {
  numbered = c.trim.ensures.numbered c.args.self.now.next (rw c.take-taken.ensures.after
      (numbered_empty c.args.self.now.next c.in-Some.slot c.args.self.now.slots.items c.args.self.now.numbered));
}

pub returns-clause-taken : goal.returns-clause-taken
returns-clause-taken c =
    let at = c.in-Some.ensures.slot in
    rw (c.trim.ensures.filled, c.take-taken.ensures.after)
    (taken_at c.args.self.now.next c.args.number c.in-Some.slot c.args.self.now.slots.items c.take-taken.result at.0 at.1
    c.args.self.now.numbered (rw c.take-taken.ensures.value c.index_mut.ensures.value))
