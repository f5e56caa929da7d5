-- The steps that are held are the open steps.
use Rattle.std.proofs.Common.{◌∙◌}
use Rattle.title_desk.proofs.desk.Desk.open_steps.Goals as goal

pub returns : goal.returns
returns g c = rw (← c.self.view_is) record { steps = c.steps.ensures.steps ∙ c.self.invariant.steps_are c.args.examiner }
