-- A denial that is due is added.
use Rattle.title_desk.proofs.States.{keeps_refused}
use Rattle.title_desk.proofs.desk.Desk.refuse.Goals as goal

pub invariant_of-self : goal.invariant_of-self
invariant_of-self g c = rw c.then-self-inside.ensures.then
    (keeps_refused c.args.request c.args.why c.self.invariant (rw (← c.self.view_is) at c.requires.due))
