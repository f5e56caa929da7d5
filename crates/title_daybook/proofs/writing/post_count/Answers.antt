use Rattle.std.proofs.{Common.{List, ◌∙◌, ap, length, arith}, lemmas.List.{take_all}}
use Rattle.title_chain.specs.declared.ask.Step.{Step}
use Rattle.title_daybook.{specs.Added.{posts_of}, proofs.WrittenRows.{counts_more}}
use Rattle.title_daybook.proofs.writing.post_count.Goals as goal

pub loop-step-preserved : goal.loop-step-preserved
loop-step-preserved c =
    let more = counts_more c.args.steps.now c.loop-step.step-index c.step-item.result c.loop-step-test.true c.step-item.is in
    record {
      counted = omega (arith, more, c.loop-step.invariant.counted, c.post_number-count.ensures.number);
      few = omega (arith, c.loop-step.invariant.few, c.post_number-count.ensures.few);
    }

pub returns : goal.returns
returns c = record {
  count = c.loop-step.invariant.counted
      ∙ ap (λ (l : List Step). length (posts_of l)) (take_all c.loop-step.step-index c.args.steps.now c.loop-step-test.false);
}
