-- Of which transactions of its script a worker's outcomes are. A record lists its oldest step first.
use Rattle.std.specs.Prelude.{◌≡◌, ◌<◌, ◌⊎◌, ◌&&◌, ℕ, Bool, true, not, List, [], ◌∷◌, map, filter, take, is_some}
use Rattle.title_land.specs.Lands.{is_in_plant}
use Rattle.title_chain.specs.{declared.{ask.Ask.{Ask}, record.Record.{Record}}, Asks.{cause_of, tract_of}}
use Rattle.title_trace.specs.Due.{Setting, most_steps}
use Rattle.title_settle.specs.declared.outcome.Outcome.{Outcome}
use Rattle.title_turns.specs.Dealt.{Dealt}

-- the plant and the parties allow an ask, whoever has a transaction open: its tract lies in the plant, and its instrument can stand
abbrev pub is_allowed : Setting → Ask → Bool
is_allowed setting a = is_in_plant setting.townships (tract_of a) && not (is_some (cause_of setting.parties a))

-- what is answered of a transaction's asks where nobody is in its way: those that are allowed, the first so many; the others are passed
-- over
abbrev pub served_asks : Setting → List Ask → List Ask
served_asks setting asks = take most_steps (filter (is_allowed setting) asks)

-- what a record's steps asked for, in order
abbrev pub asks_of : Record → List Ask
asks_of r = map (λ s. s.ask) r.steps

-- an outcome is that of a transaction of an examiner: its script commits it, and its record has all that was to be answered
pub record IsOutcomeOf (setting : Setting) (e : ℕ) (t : Dealt) (o : Outcome) : Type 0 where
  pub commits : t.commits ≡ true
  pub examiner : o.rec.examiner ≡ e
  pub asks : asks_of o.rec ≡ served_asks setting t.asks

-- these outcomes are those of some of an examiner's transactions, each of its own, in their order
abbrev pub AreOutcomesOf : Setting → ℕ → List Dealt → List Outcome → Type 0
AreOutcomesOf setting e [] outcomes = outcomes ≡ []
AreOutcomesOf setting e (t ∷ rest) outcomes =
    AreOutcomesOf setting e rest outcomes
    ⊎ ((o : Outcome) × (more : List Outcome) × (outcomes ≡ o ∷ more) × IsOutcomeOf setting e t o × AreOutcomesOf setting e rest more)

-- the places of these outcomes rise, from above a place on
abbrev pub AreRising : ℕ → List Outcome → Type 0
AreRising n [] = Unit {0}
AreRising n (o ∷ rest) = (n < o.place) × AreRising o.place rest

-- what comes of an examiner's transactions: outcomes of some of them, committed one after another
pub record IsRunOf (setting : Setting) (e : ℕ) (transactions : List Dealt) (outcomes : List Outcome) : Type 0 where
  pub outcomes_are : AreOutcomesOf setting e transactions outcomes
  pub in_order : AreRising 0 outcomes

-- the same of several examiners' transactions, in their order
abbrev pub AreRunsOf : Setting → List (ℕ × List Dealt) → List (List Outcome) → Type 0
AreRunsOf setting [] [] = Unit {0}
AreRunsOf setting ((e, transactions) ∷ rest) (outcomes ∷ more) = IsRunOf setting e transactions outcomes × AreRunsOf setting rest more
AreRunsOf setting _ _ = ⊥
