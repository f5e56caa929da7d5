-- The law over entries that stand apart.
use Rattle.title_lock.proofs.Granted.{granted_without}
use Rattle.title_land.specs.Depth.{depth}
use Rattle.title_lock.proofs.laws.left_are_granted.Goals as goal

pub returns : goal.returns
returns c = record { law = granted_without depth }
