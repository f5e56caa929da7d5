-- The repair fails, or the file is at rest.
use Rattle.std.proofs.lemmas.Result.{err_from_is_err_and}
use Rattle.title_lasting.proofs.FileOpened.{repaired}
use Rattle.title_lasting.proofs.opening.open.Goals as goal

pub returns-in_err-repair-clause-why : goal.returns-in_err-repair-clause-why
returns-in_err-repair-clause-why g c =
    let out = err_from_is_err_and c.from_residual-in_err-repair.result c.from_residual-in_err-repair.ensures.1 in
    rw (out.1, out.2) c.in_err-repair.ensures.failed

pub returns-in_err-repair-clause-left : goal.returns-in_err-repair-clause-left
returns-in_err-repair-clause-left g c =
    let out = err_from_is_err_and c.from_residual-in_err-repair.result c.from_residual-in_err-repair.ensures.1 in
    rw (out.1, out.2) tt

pub returns-in_err-repair-clause-any_moment : goal.returns-in_err-repair-clause-any_moment
returns-in_err-repair-clause-any_moment g c =
    repaired g.D.Disk.seen g.D.Disk.may_leave g.D.Disk.moment g.D.Disk.left_since g.met.D.Disk.only_now c.args.disk.now c.find.new.disk
    c.repair.new.disk c.requires.durable c.find.ensures.crash c.find.ensures.time c.find.ensures.seen c.repair.ensures.any_moment

pub returns-clause-any_moment : goal.returns-clause-any_moment
returns-clause-any_moment g c =
    repaired g.D.Disk.seen g.D.Disk.may_leave g.D.Disk.moment g.D.Disk.left_since g.met.D.Disk.only_now c.args.disk.now c.find.new.disk
    c.repair.new.disk c.requires.durable c.find.ensures.crash c.find.ensures.time c.find.ensures.seen c.repair.ensures.any_moment
