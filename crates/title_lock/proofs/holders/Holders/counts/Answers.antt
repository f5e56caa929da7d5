-- The counts are those of the holders.
use Rattle.title_lock.proofs.holders.Holders.counts.Goals as goal

pub returns : goal.returns
returns c = record { counts = rw (← c.self.view_is) c.self.invariant.each }
