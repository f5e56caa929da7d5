-- One part less each time.
use Rattle.std.proofs.Common.{length}
use Rattle.title_chain.proofs.lists.+row_at.Given as goal

abbrev pub decreases-row_at : goal.decreases-row_at
decreases-row_at l = length l.parts.now
