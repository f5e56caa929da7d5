-- Each step can be replayed in its turn, and has its effect.
use Rattle.std.proofs.Common.{◌∙◌}
use Rattle.title_chain.specs.Laws.PostsAgain.{can_replay, step_content}
use Rattle.title_chain.proofs.replay.post_all_again.Goals as goal

pub post_again-requires-clause-replays : goal.post_again-requires-clause-replays
post_again-requires-clause-replays g c =
    can_replay _ _ _ _ _ _ _ _ c.loop-step-test.true c.step-item.is c.loop-step.invariant.declared c.loop-step.invariant.content
    c.requires.replays

pub loop-step-preserved : goal.loop-step-preserved
loop-step-preserved g c = record {
  none = c.in_ok-post_again.ensures.out;
  declared = c.in_ok-post_again.ensures.declared ∙ c.loop-step.invariant.declared;
  content = step_content _ _ _ _ _ _ _ _ _ c.loop-step-test.true c.step-item.is c.loop-step.invariant.declared c.loop-step.invariant.content
      c.in_ok-post_again.ensures.content;
}
