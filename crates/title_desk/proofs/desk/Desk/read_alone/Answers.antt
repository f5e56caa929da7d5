-- Where nobody is open nobody has a step, so nobody is in the way.
use Rattle.std.proofs.Common.{ap}
use Rattle.title_chain.specs.Overlaps.{overlaps}
use Rattle.title_desk.proofs.desk.Desk.read_alone.Goals as goal

pub read-requires-clause-free : goal.read-requires-clause-free
read-requires-clause-free g c = λ f ne.
    ap (overlaps c.args.ask) (c.idle_have_no_steps.ensures.none _ _ f c.is_due.ensures.due (c.requires.idle f))
