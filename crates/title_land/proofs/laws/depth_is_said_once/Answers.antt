-- The law depth is said once.
use Rattle.title_land.specs.Laws.Sides.{depth_is, side_is}
use Rattle.title_land.proofs.laws.depth_is_said_once.Goals as goal

pub returns : goal.returns
returns c = record { law = (depth_is, side_is) }
