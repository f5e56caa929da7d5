-- The number that the process ends with.
use Rattle.std.specs.Prelude.{ℕ}
use Rattle.title_program.specs.declared.status.Status.{Status, TheVariants.{Success, Failure, Misunderstood}}

-- 0 where the command was carried out or help was shown, 1 after a fault, 2 for words that aren't understood
abbrev pub status_code : Status → ℕ
status_code Success = 0
status_code Failure = 1
status_code Misunderstood = 2
