-- One step more.
use Rattle.std.proofs.Common.{◌<◌, ◌∙◌, subst, List, length, arith}
use Rattle.title_land.specs.Depth.{depth}
use Rattle.title_chain.{specs.{PostSpots.{FiledPost}, TractIndexes.{IsFiled}}, proofs.Filings.{steps_more}}
use Rattle.title_chain.proofs.filing.Filing.file_steps.Goals as goal

pub loop-i-preserved : goal.loop-i-preserved
loop-i-preserved c =
    let low : c.loop-i.i < length c.args.steps.now = omega arith in record {
      read = c.file_step.ensures.read ∙ c.loop-i.invariant.read;
      filed = λ posts h. subst (λ (more : List FiledPost). IsFiled depth c.file_step.new.self more)
          (steps_more c.args.index c.args.steps.now c.loop-i.i c.index-steps-i.result posts low c.index-steps-i.is)
          (c.in_ok-file_step.ensures.filed _ (c.loop-i.invariant.filed posts h));
    }
