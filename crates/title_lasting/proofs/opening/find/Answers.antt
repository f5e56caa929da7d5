-- What stands in the blocks isn't read.
use Rattle.std.proofs.lemmas.Result.{err_from_is_err_and}
use Rattle.title_lasting.proofs.FileOpened.{unfound}
use Rattle.title_lasting.proofs.opening.find.Goals as goal

pub returns-in_err-stands-clause-why : goal.returns-in_err-stands-clause-why
returns-in_err-stands-clause-why g c =
    let out = err_from_is_err_and c.from_residual-in_err-stands.result c.from_residual-in_err-stands.ensures.1 in
    rw (out.1, out.2) (unfound (g.D.Disk.seen c.args.disk.now) (g.D.Disk.has_failed c.read.new.disk) c.in_err-stands.field-0.0
    (λ n is. c.in_err-stands.ensures.fault n is (g.D.Disk.seen c.args.disk.now) c.in_ok-blocks.ensures.stand))
