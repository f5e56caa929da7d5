-- The law is a lemma.
use Rattle.title_land.specs.Depth.{depth}
use Rattle.title_trace.proofs.Idle.{none_when_idle}
use Rattle.title_trace.proofs.laws.idle_have_no_steps.Goals as goal

pub returns : goal.returns
returns c = record { none = none_when_idle depth }
