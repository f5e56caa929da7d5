-- The holders that are found are the node's.
use Rattle.title_lock.proofs.table.Table.counts.Goals as goal

pub returns-in-Some : goal.returns-in-Some
returns-in-Some c = record { counts = rw (← c.number.ensures.number, ← c.in-Some.ensures.value) c.counts.ensures.counts }
