-- Outcomes held against records, both in order, the records' places being their numbers from 1.
use Rattle.std.specs.Prelude.{◌≡◌, ◌≢◌, ◌≤◌, ◌<◌, ℕ, zero, suc, eqb, List, [], ◌∷◌, length, filter, All, Some, slice_get}
use Rattle.title_chain.specs.declared.record.Record.{Record}
use Rattle.title_settle.specs.declared.outcome.{Outcome.{Outcome}, Unsettled.{Unsettled}}
use Rattle.title_settle.specs.declared.outcome.Unsettled.TheVariants as unsettled

-- the outcomes with this place
abbrev pub outcomes_at : List Outcome → ℕ → List Outcome
outcomes_at outcomes place = filter (λ o. eqb o.place place) outcomes

-- the record with this place; a place is above 0
abbrev pub has_place : List Record → ℕ → Record → Type 0
has_place records zero r = ⊥
has_place records (suc n) r = slice_get records n ≡ Some r

-- some record has this place
abbrev pub IsPlace : List Record → ℕ → Type 0
IsPlace records place = (1 ≤ place) × (place ≤ length records)

-- each outcome has the place of some record
abbrev pub AreKnown : List Record → List Outcome → Type 0
AreKnown records outcomes = All (λ o. IsPlace records o.place) outcomes

-- at this place one outcome stands alone, with the record of that place
abbrev pub IsRight : List Record → List Outcome → ℕ → Type 0
IsRight records outcomes place =
    (r : Record) × has_place records place r × (outcomes_at outcomes place ≡ record { place = place; rec = r } ∷ [])

-- the outcomes are the records, each once, each with its place
abbrev pub IsSettled : List Record → List Outcome → Type 0
IsSettled records outcomes = AreKnown records outcomes × ((place : ℕ) → IsPlace records place → IsRight records outcomes place)

-- the first place at which something is wrong, each outcome having some record's place
abbrev pub IsFirstWrong : List Record → List Outcome → ℕ → Type 0
IsFirstWrong records outcomes place =
    AreKnown records outcomes × IsPlace records place
    × ((before : ℕ) → 1 ≤ before → before < place → IsRight records outcomes before)

-- why they are not: the least place of an outcome that no record has; else, at the first place at which something is wrong, no
-- outcome, several, or one with another record. That somebody is open the outcomes don't tell
abbrev pub IsUneven : List Record → List Outcome → Unsettled → Type 0
IsUneven records outcomes (unsettled.Open e) = ⊥
IsUneven records outcomes (unsettled.Unknown place) =
    (outcomes_at outcomes place ≢ []) × (IsPlace records place → ⊥)
    × All (λ o. (IsPlace records o.place → ⊥) → place ≤ o.place) outcomes
IsUneven records outcomes (unsettled.Missing place) = IsFirstWrong records outcomes place × (outcomes_at outcomes place ≡ [])
IsUneven records outcomes (unsettled.Doubled place) =
    IsFirstWrong records outcomes place × (2 ≤ length (outcomes_at outcomes place))
IsUneven records outcomes (unsettled.Different place) =
    IsFirstWrong records outcomes place
    × ((o : Outcome) × (r : Record) × (outcomes_at outcomes place ≡ o ∷ []) × has_place records place r × (o.rec ≢ r))
IsUneven records outcomes unsettled.Memory = Unit {0}
