-- The causes why an instrument can't stand.
use Rattle.std.specs.Prelude.{ℕ, Bool, false, cond, not, ◌||◌, ◌&&◌, List, [], ◌∷◌, Option, Some, None, is_some, leb, eqb}
use Rattle.title_instrument.specs.declared.{parts.{Estate.{Estate, TheVariants.{S, O, M}}, Cause.{Cause}}, instrument.Deed.{Deed}}
use Rattle.title_instrument.specs.{declared.parts.Cause.TheVariants.{Party, SameParty, NoEstate, Reservation}, Estates.{names, names_none}}
use Rattle.title_instrument.specs.declared.instrument.Instrument.{Instrument}
use Rattle.title_instrument.specs.Parties.{grantor_of, grantee_of, estates_of, reservation_of}
use Rattle.title_instrument.specs.declared.instrument.Instrument.TheVariants as i

-- a deed has a reservation for an estate that it doesn't name
abbrev pub reserves_unnamed : Deed ℕ → Estate → Bool
reserves_unnamed d e = not (names d.estates e) && is_some (reservation_of d e)

-- an instrument has a reservation for an estate that it doesn't name; a release reserves nothing
abbrev pub has_stray : Instrument ℕ → Bool
has_stray (i.Deed d) = reserves_unnamed d S || reserves_unnamed d O || reserves_unnamed d M
has_stray (i.Release r) = false

-- a cause holds of an instrument among so many parties, which are numbered from 0
abbrev pub holds : ℕ → Instrument ℕ → Cause → Bool
holds parties i Party = leb parties (grantor_of i) || leb parties (grantee_of i)
holds parties i SameParty = eqb (grantor_of i) (grantee_of i)
holds parties i NoEstate = names_none (estates_of i)
holds parties i Reservation = has_stray i

-- the first of some causes that holds
abbrev pub first_of_causes : ℕ → Instrument ℕ → List Cause → Option Cause
first_of_causes parties i [] = None
first_of_causes parties i (c ∷ cs) = cond (holds parties i c) (Some c) (first_of_causes parties i cs)

-- the first cause why an instrument can't stand among so many parties
unfoldable pub first_cause : ℕ → Instrument ℕ → Option Cause
first_cause parties i = first_of_causes parties i (Party ∷ SameParty ∷ NoEstate ∷ Reservation ∷ [])
