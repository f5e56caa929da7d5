-- The last is the power that is left.
use Rattle.std.proofs.Common.{◌≡◌, arith, refl}
use Rattle.title_report.proofs.shares.bottom_bytes.Goals as goal

pub returns-in_default : goal.returns-in_default
returns-in_default c = let last : c.args.exponent ≡ 32 = omega arith in record { bottom = rw last refl }
