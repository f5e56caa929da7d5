-- The owners of one cell: a division of each estate.
use Rattle.title_share.specs.Division.{Division, all_to}
use Rattle.title_instrument.specs.declared.{parts.Estate.{Estate, TheVariants.{S, O, M}}, owners.Owners.{Owners}}

-- the holding of an estate
abbrev pub holding_of : Estate → Owners → Division
holding_of S w = w.s
holding_of O w = w.o
holding_of M w = w.m

-- the owners before any instrument: party 0 has the whole of each estate
unfoldable pub opening_owners : Owners
opening_owners = record { s = all_to 0; o = all_to 0; m = all_to 0 }
