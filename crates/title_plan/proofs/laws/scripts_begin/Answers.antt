use Rattle.title_plan.proofs.Begins.{scripts_begin}
use Rattle.title_plan.proofs.laws.scripts_begin.Goals as goal

pub returns : goal.returns
returns c = record { begins = scripts_begin }
