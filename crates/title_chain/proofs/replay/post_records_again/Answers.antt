-- Each record can be replayed in its turn, and has its effect.
use Rattle.std.proofs.Common.{◌∙◌, reverse}
use Rattle.title_land.specs.Depth.{depth}
use Rattle.title_store.specs.Plants.{SameContent}
use Rattle.title_chain.specs.{Alone.{after_steps}, Laws.PostsAgain.{can_replay_record, record_content}}
use Rattle.title_chain.proofs.replay.post_records_again.Goals as goal

pub post_all_again-requires-clause-replays : goal.post_all_again-requires-clause-replays
post_all_again-requires-clause-replays g c =
    rw c.as_slice.ensures.slice (can_replay_record _ _ _ _ _ _ _ c.loop-record-test.true c.record-item.is c.loop-record.invariant.declared
    c.loop-record.invariant.content c.requires.serial)

pub loop-record-preserved : goal.loop-record-preserved
loop-record-preserved g c =
    let next : SameContent (after_steps depth (g.S.Store.declared c.loop-record.store) (g.S.Store.content c.loop-record.store)
    (reverse c.record-item.result.steps)) (g.S.Store.content c.post_all_again.new.store) =
    rw c.as_slice.ensures.slice at c.in_ok-post_all_again.ensures.content in record {
      none = c.in_ok-post_all_again.ensures.out;
      declared = c.in_ok-post_all_again.ensures.declared ∙ c.loop-record.invariant.declared;
      content = record_content _ _ _ _ _ _ _ _ c.loop-record-test.true c.record-item.is c.loop-record.invariant.declared
          c.loop-record.invariant.content next;
    }
