-- Nobody is in the way of the one examiner that has entries.
use Rattle.std.proofs.Common.{sym}
use Rattle.title_lock.{specs.Overlaps.{is_post}, proofs.AloneLaws.{alone_free, listed_shown}}
use Rattle.title_lock.proofs.node_locks.NodeLocksGuards.prepare.Goals as goal

pub prepare_knowing-requires : goal.prepare_knowing-requires
prepare_knowing-requires c =
    let i = c.self.inside in
    let now = c.begin.new.self in
    let listed = sym (listed_shown i.layout c.in-Alone.owner i.listed i.spread now c.self.view_is c.in-Alone.is) in
    record {
      way = alone_free i.layout c.in-Alone.owner c.args.examiner i.listed i.spread now i.listed.entries c.self.view_is c.self.invariant
          listed c.in-Alone.is c.if-owner-examiner.true c.args.tract.now (is_post c.args.access);
    }
