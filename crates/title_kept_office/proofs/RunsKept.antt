-- What an office commits of a script's transactions can be written: it is asked for by rows that can be.
use Rattle.std.proofs.Common.{◌≡◌, ◌∙◌, ◌<◌, ◌≤◌, ◌==◌, ℕ, zero, suc, Bool, true, false, cond, Some, List, [], ◌∷◌, length, map}
use Rattle.std.proofs.{Common.{inl, inr, filter, take, reverse, refl, sym, ap, subst, arith}, lemmas.{Bool.{eqb-true}, List.{length-map}}}
use Rattle.std.specs.{Prelude.{slice_get}, List.{AllByRecursion, flat_map}}
use Rattle.title_store.specs.Laws.Each.{each_append, each_filter, each_from, each_map}
use Rattle.title_chain.specs.declared.record.Record.{Record}
use Rattle.title_trace.specs.{declared.call.Request.{Request}, Trace.{examiner_of}, Due.{Setting, most_steps}}
use Rattle.title_trace.specs.declared.call.Request.TheVariants as request
use Rattle.title_settle.specs.{declared.outcome.Outcome.{Outcome}, Settling.{IsSettled}}
use Rattle.title_turns.specs.Dealt.{Dealt}
use Rattle.title_office.specs.Transactions.{AreOutcomesOf, AreRunsOf, IsOutcomeOf, asks_of, is_allowed, served_asks}
use Rattle.title_plan.specs.declared.line.Line.{Line}
use Rattle.title_plan.specs.declared.line.Line.TheVariants as line
use Rattle.title_dealing.specs.Dealing.{Hand, hand_of, transactions_of, with_request}
use Rattle.title_standing.specs.Standing.{kept}
use Rattle.title_spelling.specs.Posts.{IsExaminer}
use Rattle.title_daybook.specs.AddedLaws.{IsKept}
use Rattle.title_day.specs.{declared.tally.Tally.{Tally}, OfficeRecords.{AreMadeOf, placed, scripts_in}}
use Rattle.title_lasting.specs.Laws.{FineRows.{some_inj}, FineScripts.{FineAsk, FineStep}, FineTraces.{FineRequest, all_reversed}}
use Rattle.title_lasting.specs.Laws.KeptNews.{kept_is}

-- ---- lists

each_unmap : {A B : Type 0} (f : A → B) (P : B → Type 0) (xs : List A) → AllByRecursion P (map f xs) → AllByRecursion (λ x. P (f x)) xs
each_unmap f P [] all = tt
each_unmap f P (x ∷ xs) all = (all.0, each_unmap f P xs all.1)

each_taken : {A : Type 0} (P : A → Type 0) (n : ℕ) (xs : List A) → AllByRecursion P xs → AllByRecursion P (take n xs)
each_taken P zero xs all = tt
each_taken P (suc n) [] all = tt
each_taken P (suc n) (x ∷ xs) all = (all.0, each_taken P n xs all.1)

taken_few : {A : Type 0} (n : ℕ) (xs : List A) → length (take n xs) ≤ n
taken_few zero xs = omega arith
taken_few (suc n) [] = omega arith
taken_few (suc n) (x ∷ xs) = omega (arith, taken_few n xs)

each_passed : {A : Type 0} (p : A → Bool) (P : A → Type 0) (xs : List A) → AllByRecursion P xs → AllByRecursion P (filter p xs)
each_passed p P xs all = each_from (λ x. (p x ≡ true) × P x) P (filter p xs) (λ x both. both.1) (each_filter p P xs all)

-- what has P at each place
each_at : {A : Type 0} (P : A → Type 0) (xs : List A) → ((i : ℕ) → i < length xs → (x : A) × (slice_get xs i ≡ Some x) × P x)
    → AllByRecursion P xs
each_at P [] each = tt
each_at P (x ∷ xs) each =
    let here = each zero (omega arith) in
    (subst P (sym (some_inj x here.0 here.1)) here.2, each_at P xs (λ i within. each (suc i) (omega (arith, within))))

-- what outcomes have, the records have that they are
each_settled : (P : Record → Type 0) (records : List Record) (outcomes : List Outcome) → IsSettled records outcomes
    → AllByRecursion (λ o. P o.rec) outcomes → AllByRecursion P records
each_settled P records outcomes settled all =
    each_at P records (λ i within.
    let right = settled.1 (suc i) (omega arith, omega (arith, within)) in (
      right.0,
      right.1,
      (subst (AllByRecursion (λ o. P o.rec)) right.2
          (each_passed (λ (o : Outcome). o.place == suc i) (λ o. P o.rec) outcomes all)).0,
    ))

each_placed : (P : Record → Type 0) (n : ℕ) (records : List Record) → AllByRecursion P records
    → AllByRecursion (λ o. P o.rec) (placed n records)
each_placed P n [] all = tt
each_placed P n (r ∷ records) all = (all.0, each_placed P (suc n) records all.1)

module _ (names : List (List ℕ)) where
  -- ---- what rows ask an examiner for

  abbrev pub FineDealt : ℕ → Dealt → Type 0
  FineDealt e t = IsExaminer e × AllByRecursion (FineAsk names e) t.asks

  abbrev FineHand : ℕ → Hand → Type 0
  FineHand e h = AllByRecursion (FineAsk names e) h.asks × AllByRecursion (FineDealt e) h.later

  fine_request : (q : Request) (h : Hand) → FineRequest IsExaminer (FineAsk names) q → FineHand (examiner_of q) h
      → FineHand (examiner_of q) (with_request q h)
  fine_request (request.Begin e) h fine hand = (tt, ((fine, hand.0), hand.1))
  fine_request (request.Step e a) h fine hand = ((fine.1, hand.0), hand.1)
  fine_request (request.Commit e) h fine hand = (tt, hand.1)
  fine_request (request.Abort e) h fine hand = (tt, hand.1)

  -- a request of the examiner comes before a hand, one of another's doesn't
  if_own : (b : Bool) (e : ℕ) (q : Request) (h : Hand) → (b ≡ true → examiner_of q ≡ e) → FineRequest IsExaminer (FineAsk names) q
      → FineHand e h → FineHand e (cond b (with_request q h) h)
  if_own true e q h own fine hand =
      subst (λ (f : ℕ). FineHand f (with_request q h)) (own refl)
      (fine_request q h fine (subst (λ (f : ℕ). FineHand f h) (sym (own refl)) hand))
  if_own false e q h own fine hand = hand

  fine_hand : (e : ℕ) (lines : List Line) → AllByRecursion (FineStep names) lines → FineHand e (hand_of e lines)
  fine_hand e [] fine = (tt, tt)
  fine_hand e (line.Asks q ∷ rest) fine =
      if_own (examiner_of q == e) e q (hand_of e rest) (eqb-true (examiner_of q) e) fine.0 (fine_hand e rest fine.1)
  fine_hand e (line.Alone f a ∷ rest) fine = fine_hand e rest fine.1
  fine_hand e (line.Described f why ∷ rest) fine = fine_hand e rest fine.1

  pub fine_dealt : (e : ℕ) (lines : List Line) → AllByRecursion (FineStep names) lines
      → AllByRecursion (FineDealt e) (transactions_of lines e)
  fine_dealt e lines fine = (fine_hand e lines fine).1

  -- ---- what is committed of it

  abbrev CanKeep : Record → Type 0
  CanKeep r = IsKept names (kept r)

  module _ (setting : Setting) where
    outcome_kept : (e : ℕ) (t : Dealt) (o : Outcome) → FineDealt e t → IsOutcomeOf setting e t o → CanKeep o.rec
    outcome_kept e t o fine own =
        let served : AllByRecursion (FineAsk names e) (served_asks setting t.asks) =
        each_taken (FineAsk names e) most_steps (filter (is_allowed setting) t.asks)
        (each_passed (is_allowed setting) (FineAsk names e) t.asks fine.1) in
        let asks : AllByRecursion (FineAsk names o.rec.examiner) (asks_of o.rec) =
        subst (λ (f : ℕ). AllByRecursion (FineAsk names f) (asks_of o.rec)) (sym own.examiner)
        (subst (AllByRecursion (FineAsk names e)) (sym own.asks) served) in
        kept_is names o.rec (record {
          examiner = subst IsExaminer (sym own.examiner) fine.0;
          steps = each_unmap (λ s. s.ask) (FineAsk names o.rec.examiner) o.rec.steps asks;
        }) (subst (λ (n : ℕ). n ≤ most_steps) (sym (ap length own.asks) ∙ length-map o.rec.steps (λ s. s.ask))
        (taken_few most_steps (filter (is_allowed setting) t.asks)))

    outcomes_kept : (e : ℕ) (transactions : List Dealt) (outcomes : List Outcome) → AllByRecursion (FineDealt e) transactions
        → AreOutcomesOf setting e transactions outcomes → AllByRecursion (λ o. CanKeep o.rec) outcomes
    outcomes_kept e [] outcomes fine are = subst (AllByRecursion (λ o. CanKeep o.rec)) (sym are) tt
    outcomes_kept e (t ∷ rest) outcomes fine (inl none) = outcomes_kept e rest outcomes fine.1 none
    outcomes_kept e (t ∷ rest) outcomes fine (inr some) =
        subst (AllByRecursion (λ o. CanKeep o.rec)) (sym some.2)
        (outcome_kept e t some.0 fine.0 some.3, outcomes_kept e rest some.1 fine.1 some.4)

    runs_kept : (lines : List Line) → AllByRecursion (FineStep names) lines → (e number : ℕ) (runs : List (List Outcome))
        → AreRunsOf setting (scripts_in lines e number) runs → AllByRecursion (λ o. CanKeep o.rec) (flat_map (λ run. run) runs)
    runs_kept lines fine e number [] are = tt
    runs_kept lines fine e zero (run ∷ runs) are = absurd are
    runs_kept lines fine e (suc number) (run ∷ runs) are =
        each_append (λ o. CanKeep o.rec) run (flat_map (λ run. run) runs)
        (outcomes_kept e (transactions_of lines e) run (fine_dealt e lines fine) are.0.outcomes_are)
        (runs_kept lines fine (suc e) number runs are.1)

    -- what is kept of the records, where what stood can be written
    pub made_kept : (lines : List Line) → AllByRecursion (FineStep names) lines → (number : ℕ) (stood : List Record)
        (tallies : List Tally) (records : List Record) → AreMadeOf setting (scripts_in lines 1 number) stood tallies records
        → AllByRecursion (IsKept names) (map kept stood) → AllByRecursion (IsKept names) (map kept (reverse records))
    made_kept lines fine number stood tallies records made old =
        each_map kept (IsKept names) (reverse records) (all_reversed CanKeep records
        (each_settled CanKeep records _ made.are_records
        (each_append (λ o. CanKeep o.rec) (placed 1 (reverse stood)) (flat_map (λ run. run) made.runs)
        (each_placed CanKeep 1 (reverse stood) (all_reversed CanKeep stood (each_unmap kept (IsKept names) stood old)))
        (runs_kept lines fine 1 number made.runs made.runs_are))))
