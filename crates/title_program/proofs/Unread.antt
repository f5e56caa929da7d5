-- A source that isn't read.
use Rattle.std.proofs.Common.{arith, ℕ}
use Rattle.title_script.specs.Runs.{IsReadWithin}

-- no turn at all is within the turns of a script
pub none_within : (turns : ℕ) → IsReadWithin turns turns
none_within turns = omega arith
