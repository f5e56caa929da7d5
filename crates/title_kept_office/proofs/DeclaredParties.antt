-- Rows name declared parties alone. So what is answered of an examiner's transactions is the same where there is room for more parties,
-- and what is committed of them there are outcomes of them among the declared ones.
use Rattle.std.proofs.Common.{◌≡◌, ◌∙◌, ◌≤◌, ◌<◌, ◌&&◌, ◌||◌, ℕ, zero, suc, Bool, false, not, cond, is_some, Option, Some}
use Rattle.std.proofs.{Common.{inl, inr, List, [], ◌∷◌, length, filter, take, refl, sym, ap, ap₂, arith}, lemmas.Bool.{lt-leb}}
use Rattle.std.specs.List.{AllByRecursion}
use Rattle.title_store.specs.Laws.Each.{each_from}
use Rattle.title_land.specs.{declared.survey.Township.{Township}, Lands.{is_in_plant}}
use Rattle.title_instrument.specs.{declared.{instrument.Instrument.{Instrument}, parts.Cause.{Cause}}, Parties.{grantee_of, grantor_of}}
use Rattle.title_instrument.specs.declared.parts.Cause.TheVariants.{Party, SameParty, NoEstate, Reservation}
use Rattle.title_instrument.specs.Check.{first_cause, first_of_causes, holds}
use Rattle.title_chain.specs.{declared.{ask.Ask.{Ask}, record.Record.{Record}}, Asks.{tract_of}}
use Rattle.title_chain.specs.declared.ask.Ask.TheVariants as ask
use Rattle.title_trace.specs.Due.{Setting, most_steps}
use Rattle.title_settle.specs.declared.outcome.Outcome.{Outcome}
use Rattle.title_turns.specs.Dealt.{Dealt}
use Rattle.title_office.specs.Transactions.{AreOutcomesOf, AreRunsOf, is_allowed}
use Rattle.title_plan.specs.declared.line.Line.{Line}
use Rattle.title_dealing.specs.Dealing.{transactions_of}
use Rattle.title_day.specs.{declared.tally.Tally.{Tally}, OfficeRecords.{AreMadeOf, scripts_in}}
use Rattle.title_lasting.specs.Laws.FineScripts.{FineAsk, FineStep}
use Rattle.title_kept_office.proofs.RunsKept.{FineDealt, fine_dealt}

module _ (names : List (List ℕ)) (townships : List Township) (most : ℕ) (few : length names ≤ most) where
  -- a plant of the declared parties, and one with room for more
  abbrev narrow : Setting
  narrow = record { parties = length names; townships = townships }

  abbrev wide : Setting
  wide = record { parties = most; townships = townships }

  -- ---- asks

  declared : (n : ℕ) (i : Instrument ℕ) → grantor_of i < n → grantee_of i < n → holds n i Party ≡ false
  declared n i h k = ap₂ (λ (a b : Bool). a || b) (lt-leb n (grantor_of i) h) (lt-leb n (grantee_of i) k)

  same_cause : (i : Instrument ℕ) → grantor_of i < length names → grantee_of i < length names
      → first_cause (length names) i ≡ first_cause most i
  unfolding first_cause
  same_cause i h k =
      let rest : Option Cause = first_of_causes most i (SameParty ∷ NoEstate ∷ Reservation ∷ []) in
      ap (λ (b : Bool). cond b (Some Party) rest) (declared (length names) i h k)
      ∙ sym (ap (λ (b : Bool). cond b (Some Party) rest) (declared most i (omega (arith, h, few)) (omega (arith, k, few))))

  abbrev Same : Ask → Type 0
  Same a = is_allowed narrow a ≡ is_allowed wide a

  same_ask : (e : ℕ) (a : Ask) → FineAsk names e a → Same a
  same_ask e (ask.Sheet t) is = refl
  same_ask e (ask.Chain t) is = refl
  same_ask e (ask.Post p) is =
      ap (λ (cause : Option Cause). is_in_plant townships (tract_of (ask.Post p)) && not (is_some cause))
      (same_cause p.instrument is.grantor is.grantee)

  same_asks : (asks : List Ask) → AllByRecursion Same asks → filter (is_allowed narrow) asks ≡ filter (is_allowed wide) asks
  same_asks [] all = refl
  same_asks (a ∷ asks) all =
      ap₂ (λ (b : Bool) (rest : List Ask). cond b (a ∷ rest) rest) all.0 (same_asks asks all.1)

  -- ---- outcomes

  outcomes_too : (e : ℕ) (transactions : List Dealt) (outcomes : List Outcome) → AllByRecursion (FineDealt names e) transactions
      → AreOutcomesOf wide e transactions outcomes → AreOutcomesOf narrow e transactions outcomes
  outcomes_too e [] outcomes fine are = are
  outcomes_too e (t ∷ rest) outcomes fine (inl none) = inl (outcomes_too e rest outcomes fine.1 none)
  outcomes_too e (t ∷ rest) outcomes fine (inr some) =
      let own = some.3 in
      inr (
        some.0,
        some.1,
        some.2,
        record {
          commits = own.commits;
          examiner = own.examiner;
          asks = own.asks ∙ sym (ap (take most_steps)
              (same_asks t.asks (each_from (FineAsk names e) Same t.asks (same_ask e) fine.0.1)));
        },
        outcomes_too e rest some.1 fine.1 some.4,
      )

  runs_too : (lines : List Line) → AllByRecursion (FineStep names) lines → (e number : ℕ) (runs : List (List Outcome))
      → AreRunsOf wide (scripts_in lines e number) runs → AreRunsOf narrow (scripts_in lines e number) runs
  runs_too lines fine e zero [] are = tt
  runs_too lines fine e zero (run ∷ runs) are = absurd are
  runs_too lines fine e (suc number) [] are = absurd are
  runs_too lines fine e (suc number) (run ∷ runs) are = (
    record {
      outcomes_are = outcomes_too e (transactions_of lines e) run (fine_dealt names e lines fine) are.0.outcomes_are;
      in_order = are.0.in_order;
    },
    runs_too lines fine (suc e) number runs are.1,
  )

  pub made_too : (lines : List Line) → AllByRecursion (FineStep names) lines → (number : ℕ) (stood : List Record) (tallies : List Tally)
      (records : List Record) → AreMadeOf wide (scripts_in lines 1 number) stood tallies records
      → AreMadeOf narrow (scripts_in lines 1 number) stood tallies records
  made_too lines fine number stood tallies records made = record {
    runs = made.runs;
    runs_are = runs_too lines fine 1 number made.runs made.runs_are;
    tallied = made.tallied;
    are_records = made.are_records;
  }
