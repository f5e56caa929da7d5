-- How a command ends.
use Rattle.std.specs.Prelude.{◌≡◌, None}
use Rattle.title_program.specs.declared.{ending.Ending.{Ending}, status.Status.TheVariants.{Success}}

-- a command that succeeded has no reason why it failed
abbrev pub IsQuiet : Ending → Type 0
IsQuiet ending = ending.status ≡ Success → ending.why ≡ None
