-- The tallies of an office's day tell what came of each transaction that its script asks for.
use Rattle.std.proofs.Common.{◌≡◌, ◌∙◌, ◌+◌, ℕ, suc, List, [], ◌∷◌, ◌++◌, length, map, filter, reverse, sum, refl, sym, ap, ap₂}
use Rattle.std.proofs.{Common.{Option, Some, None, arith, length-append, subst}, lemmas.List.{append_assoc, length-map, length-reverse}}
use Rattle.std.{proofs.lemmas.List.{reverse-reverse, Folds.{flat_map-map}, Sums.{sum_by-cons}}, specs.List.{flat_map}}
use Rattle.title_plan.specs.declared.line.Line.{Line}
use Rattle.title_chain.specs.declared.record.Record.{Record}
use Rattle.title_trace.specs.Due.{Setting}
use Rattle.title_settle.specs.{Settling.{IsSettled}, SettledLaws.{AsMany}, declared.outcome.Outcome.{Outcome}}
use Rattle.title_turns.specs.{declared.script.Script.{Script}, Dealt.{Dealt, dealt_in}}
use Rattle.title_office.specs.{declared.fault.Fault.{Fault}, Transactions.{AreRunsOf}, Workers.{AreCounted, examiners_of}}
use Rattle.title_dealing.specs.Dealing.{AreDealt, IsDealt}
use Rattle.title_day.specs.{declared.tally.Tally.{Tally}, OfficeReports.{is_begin_of, AreTallies}}
use Rattle.title_day.specs.{OfficeDays.{AreTold, committed_by, first_there, tally_of}, OfficeRecords.{AreMadeOf, placed}}
use Rattle.title_day.proofs.{Begun.{as_many_as_begun}, StoodOutcomes.{length_placed}}

-- a script that was dealt has a transaction for each begin of its examiner
as_many_as_begins : (lines : List Line) (e : ℕ) (script : Script) → IsDealt lines e script →
    length script.transactions.items ≡ length (filter (is_begin_of e) lines)
as_many_as_begins lines e script dealt =
    sym (length-map script.transactions.items dealt_in) ∙ ap length dealt.1 ∙ as_many_as_begun lines e

-- what is told of scripts that were dealt from an examiner on are the tallies of the examiners from it on
pub told_tallies : (lines : List Line) (e : ℕ) (scripts : List Script) (tallies : List Tally) → AreDealt lines e scripts →
    AreTold scripts tallies → AreTallies lines e tallies
told_tallies lines e [] [] dealt told = tt
told_tallies lines e [] (t ∷ tallies) dealt told = absurd told
told_tallies lines e (s ∷ scripts) [] dealt told = tt
told_tallies lines e (s ∷ scripts) (t ∷ tallies) dealt told = (
  (told.0.0 ∙ dealt.0.0, told.0.1 ∙ as_many_as_begins lines e s dealt.0),
  told_tallies lines (suc e) scripts tallies dealt.1 told.1,
)

-- there are as many tallies as scripts
pub told_many : (scripts : List Script) (tallies : List Tally) → AreTold scripts tallies → length tallies ≡ length scripts
told_many [] [] told = refl
told_many [] (t ∷ tallies) told = absurd told
told_many (s ∷ scripts) [] told = absurd told
told_many (s ∷ scripts) (t ∷ tallies) told = ap suc (told_many scripts tallies told.1)

-- ---- workers, of whatever kind: their examiners, outcomes, numbers and faults

none_first : {A : Type 0} (o : Option A) (rest : List (Option A)) → first_there (o ∷ rest) ≡ None → o ≡ None
none_first None rest none = refl
none_first (Some a) rest none = none

none_later : {A : Type 0} (o : Option A) (rest : List (Option A)) → first_there (o ∷ rest) ≡ None → first_there rest ≡ None
none_later None rest none = none
none_later (Some a) rest none = absurd cc

abbrev first_of : List ℕ → ℕ
first_of [] = 0
first_of (n ∷ ns) = n

abbrev after_first : List ℕ → List ℕ
after_first [] = []
after_first (n ∷ ns) = ns

-- where no worker has ended with a fault, their tallies tell what came of their scripts
counts_told : {W : Type 0} (ws : List W) (scripts : List Script) (ex : W → ℕ) (outs : W → List Outcome) (aborted given_up : W → ℕ)
    (flt : W → Option Fault) → map ex ws ≡ examiners_of scripts →
    AreCounted scripts (map (λ w. record { outcomes = outs w; aborted = aborted w; given_up = given_up w; fault = flt w }) ws) →
    first_there (map flt ws) ≡ None →
    AreTold scripts (map (λ w. tally_of (ex w) (outs w) (aborted w) (given_up w)) ws)
counts_told [] [] ex outs aborted given_up flt same counted none = tt
counts_told (w ∷ ws) [] ex outs aborted given_up flt same counted none = absurd counted
counts_told [] (s ∷ scripts) ex outs aborted given_up flt same counted none = absurd counted
counts_told (w ∷ ws) (s ∷ scripts) ex outs aborted given_up flt same counted none = (
  (ap first_of same, counted.0 (none_first (flt w) (map flt ws) none)),
  counts_told ws scripts ex outs aborted given_up flt (ap after_first same) counted.1 (none_later (flt w) (map flt ws) none),
)

-- the same where their faults were looked for in a slice
pub worked_told : {W : Type 0} (seen ws : List W) (scripts : List Script) (ex : W → ℕ) (outs : W → List Outcome)
    (aborted given_up : W → ℕ) (flt : W → Option Fault) → seen ≡ ws → map ex ws ≡ examiners_of scripts →
    AreCounted scripts (map (λ w. record { outcomes = outs w; aborted = aborted w; given_up = given_up w; fault = flt w }) ws) →
    None ≡ first_there (map flt seen) →
    AreTold scripts (map (λ w. tally_of (ex w) (outs w) (aborted w) (given_up w)) ws)
worked_told seen ws scripts ex outs aborted given_up flt is same counted none =
    counts_told ws scripts ex outs aborted given_up flt same counted
    (ap (λ left. first_there (map flt left)) (sym is) ∙ sym none)

-- the tallies count the outcomes
committed_are : {W : Type 0} (ws : List W) (ex : W → ℕ) (outs : W → List Outcome) (aborted given_up : W → ℕ) →
    map (λ t. t.committed) (map (λ w. tally_of (ex w) (outs w) (aborted w) (given_up w)) ws) ≡ map length (map outs ws)
committed_are [] ex outs aborted given_up = refl
committed_are (w ∷ ws) ex outs aborted given_up =
    ap (λ (ns : List ℕ). length (outs w) ∷ ns) (committed_are ws ex outs aborted given_up)

-- where the outcomes are the records, these are made of what stood and of what the workers have committed of their scripts
pub made_of : {W : Type 0} (setting : Setting) (scripts : List (ℕ × List Dealt)) (seen ws : List W) (tallies : List Tally)
    (old : List Record) (stood outcomes : List Outcome) (records : List Record) (ex : W → ℕ) (outs : W → List Outcome)
    (aborted given_up : W → ℕ) → seen ≡ ws →
    tallies ≡ map (λ w. tally_of (ex w) (outs w) (aborted w) (given_up w)) seen → outcomes ≡ stood ++ flat_map outs ws →
    IsSettled records outcomes → stood ≡ placed 1 old → AreRunsOf setting scripts (map outs ws) →
    AreMadeOf setting scripts (reverse old) tallies records
made_of setting scripts seen ws tallies old stood outcomes records ex outs aborted given_up is told gathered settled stands runs = record {
  runs = map outs ws;
  runs_are = runs;
  tallied = ap (map (λ (t : Tally). t.committed))
      (told ∙ ap (map (λ w. tally_of (ex w) (outs w) (aborted w) (given_up w))) is) ∙ committed_are ws ex outs aborted given_up;
  are_records = subst (IsSettled records)
      (gathered ∙ ap₂ (λ (first rest : List Outcome). first ++ rest) (stands ∙ ap (placed 1) (sym (reverse-reverse old)))
      (sym (flat_map-map (λ (run : List Outcome). run) outs ws))) settled;
}

lengths_joined : {A : Type 0} (runs : List (List A)) → sum (map length runs) ≡ length (flat_map (λ run. run) runs)
lengths_joined [] = refl
lengths_joined (run ∷ runs) =
    sum_by-cons (λ (n : ℕ). n) (length run) (map length runs)
    ∙ ap (λ (n : ℕ). length run + n) (lengths_joined runs)
    ∙ sym (length-append run (flat_map (λ more. more) runs))

-- so the tallies count the records behind what stood
pub made_many : AsMany → (setting : Setting) (scripts : List (ℕ × List Dealt)) (stood : List Record) (tallies : List Tally)
    (records : List Record) → AreMadeOf setting scripts stood tallies records → committed_by tallies + length stood ≡ length records
made_many as_many setting scripts stood tallies records made =
    let own = ap sum made.tallied ∙ lengths_joined made.runs in
    omega (
      arith,
      own,
      as_many records (placed 1 (reverse stood) ++ flat_map (λ run. run) made.runs) made.are_records,
      length-append (placed 1 (reverse stood)) (flat_map (λ run. run) made.runs),
      length_placed 1 (reverse stood),
      length-reverse stood,
    )

-- one worker's outcomes more are gathered
pub more_gathered : {W O : Type 0} (old new : List W) (w : W) (done after all : List O) (outs : W → List O) → old ≡ w ∷ new →
    after ≡ done ++ outs w → done ++ flat_map outs old ≡ all → after ++ flat_map outs new ≡ all
more_gathered old new w done after all outs taken moved gathered =
    ap (λ text. text ++ flat_map outs new) moved ∙ append_assoc done (outs w) (flat_map outs new)
    ∙ ap (λ left. done ++ flat_map outs left) (sym taken) ∙ gathered
