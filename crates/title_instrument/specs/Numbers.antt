-- The numbers of refusals.
use Rattle.std.specs.Prelude.{ℕ}
use Rattle.title_instrument.specs.declared.parts.{Rule.{Rule, TheVariants.{ShortTitle, TooFine, OverReserved}}, Cause.{Cause}}
use Rattle.title_instrument.specs.declared.parts.Cause.TheVariants.{Party, SameParty, NoEstate, Reservation}

-- the number of a rule by which a cell refuses an instrument
abbrev pub rule_number : Rule → ℕ
rule_number ShortTitle = 11
rule_number TooFine = 12
rule_number OverReserved = 13

-- the number of a cause why an instrument can't stand
abbrev pub cause_number : Cause → ℕ
cause_number Party = 1
cause_number SameParty = 2
cause_number NoEstate = 3
cause_number Reservation = 4
