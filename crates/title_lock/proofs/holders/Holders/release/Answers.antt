-- What the examiner held is no more counted.
use Rattle.std.proofs.Common.{None}
use Rattle.title_lock.proofs.CountLaws.{counted_own, counted_fits, counted_moved}
use Rattle.title_lock.proofs.holders.Holders.release.Goals as goal

pub moved-self-inside-requires-clause-counted : goal.moved-self-inside-requires-clause-counted
moved-self-inside-requires-clause-counted c =
    counted_own c.self.inside.counts c.self.inside.slots c.args.examiner c.erase-had.result c.self.invariant c.erase-had.ensures.had

pub moved-self-inside-requires-clause-fits : goal.moved-self-inside-requires-clause-fits
moved-self-inside-requires-clause-fits c = counted_fits c.self.inside.counts c.self.inside.slots c.self.invariant

pub invariant_of-self : goal.invariant_of-self
invariant_of-self c = counted_moved c.self.inside.counts c.moved-self-inside.result c.self.inside.slots c.erase-had.new.self c.args.examiner
    c.erase-had.result None c.ranges.examiner.fits c.self.invariant c.erase-had.ensures.had c.moved-self-inside.ensures.moved
    c.erase-had.ensures.modes
