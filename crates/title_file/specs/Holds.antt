-- How files are held against other handles of this crate.
use Rattle.std.specs.Prelude.{Bool, true, false}
use Rattle.title_file.specs.declared.holding.Hold.{Hold}
use Rattle.title_file.specs.declared.holding.Hold.TheVariants as hold

-- while a file is held so, no other handle has it open for writing
abbrev pub keeps_writers_off : Hold → Bool
keeps_writers_off hold.Loose = false
keeps_writers_off hold.Shared = true
