-- Nobody is in the way of the one examiner that has entries.
use Rattle.std.proofs.Common.{refl}
use Rattle.title_lock.{specs.Overlaps.{is_post}, proofs.AloneLaws.{alone_free}}
use Rattle.title_lock.proofs.node_locks.NodeLocksGuards.would.Goals as goal

pub returns-then-owner-examiner : goal.returns-then-owner-examiner
returns-then-owner-examiner c =
    let i = c.self.inside in
    let now = c.args.self.now in
    record {
      would = alone_free i.layout c.in-Alone.owner c.args.examiner i.listed i.spread now now.entries c.self.view_is c.self.invariant refl
          c.in-Alone.is c.if-owner-examiner.true c.args.tract.now (is_post c.args.access);
    }
