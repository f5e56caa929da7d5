use Rattle.title_plan.proofs.Alone.{onto_nothing}
use Rattle.title_plan.proofs.laws.onto_nothing.Goals as goal

pub returns : goal.returns
returns c = record { alone = onto_nothing }
