-- At first all sections are left.
use Rattle.title_land.proofs.Sections.{left_first}
use Rattle.title_land.proofs.survey.Township.sections.Goals as goal

pub returns : goal.returns
returns c = record { sections = left_first c.args.self }
