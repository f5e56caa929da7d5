-- The law over entries, one after another.
use Rattle.title_land.specs.Depth.{depth}
use Rattle.title_lock.proofs.{MeetLaws.{meet_by_covers}, Standing.{free_granted}}
use Rattle.title_lock.proofs.laws.free_are_granted.Goals as goal

pub returns : goal.returns
returns c = record { law = free_granted depth meet_by_covers }
