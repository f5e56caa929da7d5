-- One spot more stands before the next.
use Rattle.std.proofs.Common.{arith}
use Rattle.title_chain.proofs.SpotsInOrder.{all_ascend}
use Rattle.title_chain.proofs.filing.found.ascend.Goals as goal

pub loop-i-init : goal.loop-i-init
loop-i-init c = (omega arith, λ k d h. absurd (omega (arith, h)))

pub returns : goal.returns
returns c = record {
  ascend = λ _. all_ascend c.args.spots.now c.loop-i.i (omega arith) c.loop-i.invariant.1;
}
