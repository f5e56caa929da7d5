-- The law over covers, and that they tell whether tracts share a cell.
use Rattle.title_lock.proofs.{Overlap.{modes_decide}, MeetLaws.{meet_by_covers}}
use Rattle.title_land.specs.Depth.{depth}
use Rattle.title_lock.proofs.laws.modes_decide_overlap.Goals as goal

pub returns : goal.returns
returns c = record { law = modes_decide depth meet_by_covers }
