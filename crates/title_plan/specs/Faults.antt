-- How splitting a script into rows can end.
use Rattle.csv.specs.declared.error.ErrorKind.{ErrorKind}
use Rattle.csv.specs.declared.error.ErrorKind.TheVariants as kind

-- the errors that splitting a text in memory into rows can end with
abbrev pub IsWant : ErrorKind → Type 0
IsWant (kind.Io e) = Unit {0}
IsWant kind.OutOfMemory = Unit {0}
IsWant _ = ⊥
