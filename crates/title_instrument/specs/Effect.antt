-- What an instrument does to the owners of one cell.
use Rattle.std.specs.Prelude.{ℕ, ◌≡◌, false, Result, Ok, Err}
use Rattle.title_share.specs.Division.{Division, moved, units_of}
use Rattle.title_instrument.specs.declared.{parts.{Estate.{Estate, TheVariants.{S, O, M}}, Rule.{Rule}}, instrument.Instrument.{Instrument}}
use Rattle.title_instrument.specs.{declared.owners.{Owners.{Owners}, Effect.{Effect, TheVariants.{Done, Refused}}}, Estates.{names}}
use Rattle.title_instrument.specs.{Owners.{holding_of}, Parties.{grantor_of, grantee_of, estates_of}, Passing.{passes}}

-- a holding after units have passed from grantor to grantee, where a number of units passes
abbrev pub after_passing : Instrument ℕ → Division → Result ℕ Rule → Result Division Rule
after_passing i h (Ok n) = Ok (moved (grantor_of i) (grantee_of i) n h)
after_passing i h (Err rule) = Err rule

-- the holding of an estate after an instrument, or the rule that refuses
abbrev pub holding_effect : Instrument ℕ → Estate → Division → Result Division Rule
holding_effect i e h = after_passing i h (passes i e (units_of (grantor_of i) h))

-- the new owners, or the rule at the first estate that refuses, in the order S, O, M
abbrev pub joined : Result Division Rule → Result Division Rule → Result Division Rule → Effect
joined (Err rule) o m = Refused rule S
joined (Ok s) (Err rule) m = Refused rule O
joined (Ok s) (Ok o) (Err rule) = Refused rule M
joined (Ok s) (Ok o) (Ok m) = Done (record { s = s; o = o; m = m })

-- the owners of a cell after an instrument, or the rule at the first estate that refuses
unfoldable pub cell_effect : Instrument ℕ → Owners → Effect
cell_effect i w = joined (holding_effect i S (holding_of S w)) (holding_effect i O (holding_of O w)) (holding_effect i M (holding_of M w))

-- the owners that a cell has after an effect: where a rule refused, those before
abbrev pub owners_after : Owners → Effect → Owners
owners_after before (Done after) = after
owners_after before (Refused rule estate) = before

-- estates that an instrument doesn't name stay
abbrev pub KeepsUnnamed : Instrument ℕ → Owners → Effect → Type 0
KeepsUnnamed i w e = (x : Estate) → names (estates_of i) x ≡ false → holding_of x (owners_after w e) ≡ holding_of x w
