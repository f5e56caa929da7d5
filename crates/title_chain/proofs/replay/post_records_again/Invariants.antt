-- No image is out, and the plant is that after the records so far.
use Rattle.std.proofs.Common.{◌≡◌, [], reverse, take}
use Rattle.title_land.specs.Depth.{depth}
use Rattle.title_store.specs.Plants.{SameContent}
use Rattle.title_chain.specs.Alone.{plant_after}
use Rattle.title_chain.proofs.replay.post_records_again.Given as goal

abbrev pub invariant-loop-record : goal.invariant-loop-record
invariant-loop-record g l = record {
  none : g.S.Store.out l.store ≡ [];
  declared : g.S.Store.declared l.store ≡ g.S.Store.declared l.initial.store;
  content : SameContent (plant_after depth (g.S.Store.declared l.initial.store) (reverse (take l.record-index l.records)))
      (g.S.Store.content l.store);
}
