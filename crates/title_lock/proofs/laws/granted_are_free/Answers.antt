-- The law over entries, one after another.
use Rattle.title_land.specs.Depth.{depth}
use Rattle.title_lock.proofs.{MeetLaws.{meet_by_covers}, Standing.{granted_free}}
use Rattle.title_lock.proofs.laws.granted_are_free.Goals as goal

pub returns : goal.returns
returns c = record { law = granted_free depth meet_by_covers }
