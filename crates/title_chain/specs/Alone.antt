-- Asks one after another, nothing else being open. Lists of steps and of records here have the newest first.
use Rattle.std.specs.Prelude.{◌≡◌, ℕ, true, List, [], ◌∷◌, reverse, None}
use Rattle.title_land.specs.{declared.survey.Township.{Township}, Lands.{is_in_plant}}
use Rattle.title_instrument.specs.Owners.{opening_owners}
use Rattle.title_store.specs.Plants.{Plant}
use Rattle.title_chain.specs.{declared.{ask.{Ask.{Ask}, Answer.{Answer}, Step.{Step}}, record.Record.{Record}}, Chains.{chain_of}}
use Rattle.title_chain.specs.Asks.{tract_of, cause_of, effect, answer_to}

-- the opening plant: party 0 owns all of each estate in every cell
abbrev pub opening_plant : Plant
opening_plant = λ c. opening_owners

-- the plant after these steps
abbrev pub after_steps : ℕ → List Township → Plant → List Step → Plant
after_steps depth townships plant [] = plant
after_steps depth townships plant (s ∷ earlier) = effect depth townships (after_steps depth townships plant earlier) s.ask

-- the opening plant followed by the asks of these records
abbrev pub plant_after : ℕ → List Township → List Record → Plant
plant_after depth townships [] = opening_plant
plant_after depth townships (r ∷ older) = after_steps depth townships (plant_after depth townships older) (reverse r.steps)

-- the answer that an ask gets alone, after these records and the steps that its own transaction has made
abbrev pub alone : ℕ → List Township → List Record → List Step → Ask → Answer
alone depth townships records own a = answer_to depth townships (after_steps depth townships (plant_after depth townships records) own)
    (chain_of records own (tract_of a)) a

-- the most parties that a plant has, party 0 among them
abbrev pub most_parties : ℕ
most_parties = 65536

-- the ask's tract is in the plant, and an instrument that it posts passes its check among the most parties
abbrev pub CanStand : List Township → Ask → Type 0
CanStand townships a = (is_in_plant townships (tract_of a) ≡ true) × (cause_of most_parties a ≡ None)

-- each of these steps can stand and has the answer that it gets alone
abbrev pub Plays : ℕ → List Township → List Record → List Step → Type 0
Plays depth townships records [] = Unit {0}
Plays depth townships records (s ∷ earlier) =
    Plays depth townships records earlier × CanStand townships s.ask × (s.answer ≡ alone depth townships records earlier s.ask)

-- the records are serial: each record's answers are those that its asks get alone, one after another, after the records
-- before it
abbrev pub IsSerial : ℕ → List Township → List Record → Type 0
IsSerial depth townships [] = Unit {0}
IsSerial depth townships (r ∷ older) = IsSerial depth townships older × Plays depth townships older (reverse r.steps)
