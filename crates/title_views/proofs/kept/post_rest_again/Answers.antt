-- Each record can be replayed in its turn, and has its effect; tidying up changes nothing.
use Rattle.std.proofs.Common.{◌∙◌}
use Rattle.title_views.proofs.Making.{replays_next, made_next}
use Rattle.title_views.proofs.kept.post_rest_again.Goals as goal

pub post_all_again-requires-clause-replays : goal.post_all_again-requires-clause-replays
post_all_again-requires-clause-replays g c =
    replays_next (g.S.Store.declared c.args.store.now) c.args.records.now c.loop-index.index c.index-records-index.result
    c.as_slice.result.now (g.S.Store.content c.loop-index.store) (g.S.Store.declared c.loop-index.store) (g.S.Store.out c.loop-index.store)
    c.loop-index-test.true c.index-records-index.is c.as_slice.ensures.slice c.loop-index.invariant c.requires.serial

pub loop-index-preserved : goal.loop-index-preserved
loop-index-preserved g c =
    let o = c.in_ok-post_all_again.ensures in
    let t = c.tidy.ensures in
    made_next (g.S.Store.declared c.args.store.now) c.args.records.now c.loop-index.index c.index-records-index.result
    c.as_slice.result.now (g.S.Store.content c.loop-index.store) (g.S.Store.content c.tidy.new.self)
    (g.S.Store.declared c.loop-index.store) (g.S.Store.declared c.tidy.new.self) (g.S.Store.out c.loop-index.store)
    (g.S.Store.out c.tidy.new.self) c.loop-index-test.true c.index-records-index.is c.as_slice.ensures.slice
    c.loop-index.invariant (λ d. t.content d ∙ o.content d) (t.declared ∙ o.declared) t.out
