-- An instrument that can stand among some parties can stand among more.
use Rattle.std.proofs.Common.{◌≡◌, ℕ, ◌≤◌, Bool, true, false, ◌||◌, cond, refl, arith, Option, Some, None, leb, ◌<◌}
use Rattle.std.proofs.lemmas.Bool.{leb-false, lt-leb}
use Rattle.title_instrument.specs.{declared.{instrument.Instrument.{Instrument}, parts.Cause.{Cause}}, Check.{first_cause, holds}}
use Rattle.title_instrument.specs.declared.parts.Cause.TheVariants.{Party, SameParty, NoEstate, Reservation}
use Rattle.title_instrument.specs.Parties.{grantor_of, grantee_of}
use Rattle.title_chain.specs.{declared.ask.Ask.{Ask}, Asks.{cause_of}}
use Rattle.title_chain.specs.declared.ask.Ask.TheVariants as ask

-- a number that is not below some number isn't below a smaller one
above_more : (p q n : ℕ) → p ≤ q → leb p n ≡ false → leb q n ≡ false
above_more p q n most h = let below : n < p = leb-false p n h in lt-leb q n (omega arith)

neither : (a b : Bool) → (a || b) ≡ false → (a ≡ false) × (b ≡ false)
neither true b h = absurd cc
neither false b h = (refl, h)

both_false : (a b : Bool) → a ≡ false → b ≡ false → (a || b) ≡ false
both_false a b h k = rw (h, k) refl

-- the first cause, with what holds of parties as a variable
abbrev first_with : Bool → Bool → Bool → Bool → Option Cause
first_with party same none stray = cond party (Some Party)
    (cond same (Some SameParty) (cond none (Some NoEstate) (cond stray (Some Reservation) None)))

none_first : (party party2 same none stray : Bool) → (party ≡ false → party2 ≡ false) → first_with party same none stray ≡ None
    → first_with party2 same none stray ≡ None
none_first true party2 same none stray less h = absurd cc
none_first false party2 same none stray less h = rw (less refl) h

instrument_among_more : (p q : ℕ) (i : Instrument ℕ) → p ≤ q → first_cause p i ≡ None → first_cause q i ≡ None
unfolding first_cause
instrument_among_more p q i most h =
    none_first (holds p i Party) (holds q i Party) (holds p i SameParty) (holds p i NoEstate) (holds p i Reservation)
    (λ n. let parts = neither (leb p (grantor_of i)) (leb p (grantee_of i)) n in
    both_false (leb q (grantor_of i)) (leb q (grantee_of i)) (above_more p q (grantor_of i) most parts.0)
    (above_more p q (grantee_of i) most parts.1))
    h

-- an ask that can stand among some parties can stand among more
pub cause_among_more : (p q : ℕ) (a : Ask) → p ≤ q → cause_of p a ≡ None → cause_of q a ≡ None
cause_among_more p q (ask.Sheet t) most h = refl
cause_among_more p q (ask.Chain t) most h = refl
cause_among_more p q (ask.Post x) most h = instrument_among_more p q x.instrument most h
