-- The open examiners are those that have begun.
use Rattle.std.proofs.Common.{◌∙◌}
use Rattle.title_desk.proofs.desk.Desk.is_open.Goals as goal

pub returns : goal.returns
returns g c = rw (← c.self.view_is) record { opened = c.contains.ensures.found ∙ c.self.invariant.begun_are c.args.examiner }
