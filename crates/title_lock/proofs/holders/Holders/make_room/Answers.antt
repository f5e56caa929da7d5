-- Nobody's mode changes.
use Rattle.title_lock.proofs.CountLaws.{counted_same}
use Rattle.title_lock.proofs.holders.Holders.make_room.Goals as goal

pub invariant_of-self : goal.invariant_of-self
invariant_of-self c = counted_same c.self.inside.counts c.self.inside.slots c.make_room.new.self c.make_room.ensures.modes c.self.invariant
