-- The law over entries, one after another.
use Rattle.title_lock.proofs.Standing.{left_free}
use Rattle.title_lock.proofs.laws.left_stand_free.Goals as goal

pub returns : goal.returns
returns c = record { law = left_free }
