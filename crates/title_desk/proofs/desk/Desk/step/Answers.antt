-- Who is in the way by the locks is in the way by the open steps.
use Rattle.std.proofs.Common.{subst, None}
use Rattle.title_lock.specs.{declared.guards.LockFault.{LockFault}, Overlaps.{is_post, RefusedBy}}
use Rattle.title_desk.proofs.Steps.{in_the_way, conflict_due}
use Rattle.title_desk.proofs.desk.Desk.step.Goals as goal

pub pass-requires : goal.pass-requires
pass-requires g c = record {
  passes = (
    rw (← c.self.view_is) at c.in_default.ensures.refusal,
    in_the_way c.args.examiner c.args.ask c.tract_in.result.now (is_post c.access_in-access.result) None c.self.invariant
        c.tract_in.ensures.tract c.access_in-access.ensures.access c.in-Ok.ensures.free,
  );
  prepared = rw (c.tract_in.ensures.tract, c.access_in-access.ensures.is) at c.in-Ok.ensures.prepared;
}

pub refuse-requires-in-Err-Conflict : goal.refuse-requires-in-Err-Conflict
refuse-requires-in-Err-Conflict g c = record {
  due = conflict_due c.args.examiner c.args.ask c.tract_in.result.now (is_post c.access_in-access.result) c.in-Err-Conflict.other
      c.self.invariant c.tract_in.ensures.tract c.access_in-access.ensures.access
      (subst (λ (f : LockFault). RefusedBy (g.G.Guards.entries c.self.inside.guards) c.args.examiner c.tract_in.result.now
      (is_post c.access_in-access.result) f) c.in-Err-Conflict.field-0-is c.in-Err-Conflict.ensures.fault)
      (rw (← c.self.view_is) at c.in_default.ensures.refusal);
}
