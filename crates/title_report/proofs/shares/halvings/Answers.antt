-- The zeros at the end, 32 at most.
use Rattle.std.proofs.Common.{arith}
use lib.Count.{count_trailing_zeros}
use Rattle.title_report.proofs.Halvings.{share_by_zeros}
use Rattle.title_report.proofs.shares.halvings.Goals as goal

pub returns-then-zeros-gt32-clause-text : goal.returns-then-zeros-gt32-clause-text
returns-then-zeros-gt32-clause-text c = share_by_zeros c.args.units 32 (omega (arith, c.if-zeros-gt32.true))

pub returns-clause-text : goal.returns-clause-text
returns-clause-text c = share_by_zeros c.args.units (count_trailing_zeros 64 c.args.units) (omega (arith, c.if-zeros-gt32.false))
