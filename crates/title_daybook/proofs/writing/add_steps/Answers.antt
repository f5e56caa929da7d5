use Rattle.std.{proofs.{Common.{List, map, sym}, lemmas.List.{append-nil}}, specs.String.{string_bytes}}
use Rattle.title_chain.specs.declared.ask.Step.{Step}
use Rattle.title_daybook.{specs.Added.{post_rows, posts_of}, proofs.WrittenRows.{all_written, one_more, posts_add}}
use Rattle.title_daybook.proofs.writing.add_steps.Goals as goal

pub loop-step-init : goal.loop-step-init
loop-step-init c = sym (append-nil c.args.out.now.items)

pub loop-step-preserved : goal.loop-step-preserved
loop-step-preserved c =
    one_more (λ (steps : List Step). post_rows c.args.examiner (posts_of steps)) (posts_add c.args.examiner)
    (map string_bytes c.args.parties.now.keys) c.args.steps.now c.loop-step.step-index c.step-item.result c.args.out.now.items
    c.loop-step.out.items _ c.loop-step-test.true c.step-item.is c.loop-step.invariant c.in_ok-add_step.ensures.added

pub returns : goal.returns
returns c = record {
  added = all_written (λ (steps : List Step). post_rows c.args.examiner (posts_of steps)) (posts_add c.args.examiner)
      (map string_bytes c.args.parties.now.keys) c.args.steps.now c.loop-step.step-index c.args.out.now.items c.loop-step.out.items
      c.loop-step-test.false c.loop-step.invariant;
}
