-- The law cover has its cells.
use Rattle.title_land.specs.{Laws.LandSharing.{cover_has_its_cells as lemma}, Depth.{depth}}
use Rattle.title_land.proofs.laws.cover_has_its_cells.Goals as goal

pub returns : goal.returns
returns c = record { law = lemma depth }
