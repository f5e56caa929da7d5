-- Outcomes of the transactions so far, one after another.
use Rattle.std.proofs.Common.{◌≡◌, ◌<◌, ◌≤◌, ◌+◌, ◌++◌, ℕ, List, [], ◌∷◌, length, map, take, drop, get_or}
use Rattle.std.proofs.Common.{refl, sym, ap, ◌∙◌, subst, inl, inr, arith}
use Rattle.std.proofs.lemmas.List.{map-append, take-append-drop, take_more}
use Rattle.title_trace.specs.Due.{Setting}
use Rattle.title_settle.specs.declared.outcome.Outcome.{Outcome}
use Rattle.title_turns.specs.Dealt.{Dealt}
use Rattle.title_office.specs.{declared.workers.came.Came.{Came}, Offices.{SeatState}}
use Rattle.title_office.specs.Transactions.{IsOutcomeOf, AreOutcomesOf, AreRising, IsRunOf}
use Rattle.title_office.specs.Turns.{Counts, IsCameOf, IsLater, IsRunTo, RiseTo, with_came}
use Rattle.title_office.specs.declared.workers.came.Came.TheVariants as came

-- no outcome may come of any transactions
none_came : (setting : Setting) (e : ℕ) (ts : List Dealt) → AreOutcomesOf setting e ts []
none_came setting e [] = refl
none_came setting e (t ∷ ts) = inl (none_came setting e ts)

-- and none of those behind
others_came : (setting : Setting) (e : ℕ) (ts rest : List Dealt) (outcomes : List Outcome) → AreOutcomesOf setting e ts outcomes
    → AreOutcomesOf setting e (ts ++ rest) outcomes
others_came setting e [] rest outcomes none = subst (AreOutcomesOf setting e rest) (sym none) (none_came setting e rest)
others_came setting e (t ∷ ts) rest outcomes (inl h) = inl (others_came setting e ts rest outcomes h)
others_came setting e (t ∷ ts) rest outcomes (inr (o, more, is, own, h)) =
    inr (o, more, is, own, others_came setting e ts rest more h)

-- the outcome of one transaction more
one_came : (setting : Setting) (e : ℕ) (ts : List Dealt) (t : Dealt) (outcomes : List Outcome) (o : Outcome)
    → AreOutcomesOf setting e ts outcomes → IsOutcomeOf setting e t o → AreOutcomesOf setting e (ts ++ t ∷ []) (outcomes ++ o ∷ [])
one_came setting e [] t outcomes o none own = inr (o, [], ap (λ l. l ++ o ∷ []) none, own, refl)
one_came setting e (s ∷ ts) t outcomes o (inl h) own = inl (one_came setting e ts t outcomes o h own)
one_came setting e (s ∷ ts) t outcomes o (inr (p, more, is, first, h)) own =
    inr (p, more ++ o ∷ [], ap (λ l. l ++ o ∷ []) is, first, one_came setting e ts t more o h own)

-- ---- places

-- places that rise up to one rise
rise : (n : ℕ) (outcomes : List Outcome) (top : ℕ) → RiseTo n outcomes top → AreRising n outcomes
rise n [] top h = tt
rise n (o ∷ rest) top h = (h.0, rise o.place rest top h.1)

-- and so they do up to a higher one
rise_higher : (n : ℕ) (outcomes : List Outcome) (top next : ℕ) → RiseTo n outcomes top → top ≤ next → RiseTo n outcomes next
rise_higher n [] top next h up = omega (arith, h, up)
rise_higher n (o ∷ rest) top next h up = (h.0, rise_higher o.place rest top next h.1 up)

-- one place more, above that
rise_on : (n : ℕ) (outcomes : List Outcome) (o : Outcome) (top next : ℕ) → RiseTo n outcomes top → top < o.place
    → o.place ≤ next → RiseTo n (outcomes ++ o ∷ []) next
rise_on n [] o top next h above up = (omega (arith, h, above), up)
rise_on n (p ∷ rest) o top next h above up = (h.0, rise_on p.place rest o top next h.1 above up)

-- ---- runs

-- before the first transaction there is no outcome
pub run_none : (setting : Setting) (e : ℕ) (outcomes : List Outcome) (top : ℕ) → length outcomes ≡ 0 → IsRunTo setting e [] outcomes top
run_none setting e [] top empty = record { outcomes_are = refl; rise = omega arith }
run_none setting e (o ∷ rest) top empty = absurd (omega (arith, empty))

-- and where none is run, none either
pub run_nothing : (setting : Setting) (e : ℕ) (ts : List Dealt) (outcomes : List Outcome) → outcomes ≡ [] → IsRunOf setting e ts outcomes
run_nothing setting e ts outcomes none = record {
  outcomes_are = subst (AreOutcomesOf setting e ts) (sym none) (none_came setting e ts);
  in_order = subst (AreRising 0) (sym none) tt;
}

-- one transaction more, whatever came of it
run_on : (setting : Setting) (e : ℕ) (ts : List Dealt) (t : Dealt) (before : Counts) (c : Came) (seat after : SeatState)
    → seat.examiner ≡ e → IsLater seat after → IsCameOf setting seat t c after → IsRunTo setting e ts before.outcomes seat.seen
    → IsRunTo setting e (ts ++ t ∷ []) (with_came c before).outcomes after.seen
run_on setting e ts t before (came.Committed o) seat after own later is run = record {
  outcomes_are = one_came setting e ts t before.outcomes o run.outcomes_are (subst (λ n. IsOutcomeOf setting n t o) own is.0);
  rise = rise_on 0 before.outcomes o seat.seen after.seen run.rise is.1 is.2;
}
run_on setting e ts t before _ seat after own later is run = record {
  outcomes_are = others_came setting e ts (t ∷ []) before.outcomes run.outcomes_are;
  rise = rise_higher 0 before.outcomes seat.seen after.seen run.rise later.1;
}

-- the same at an index of a list of transactions
pub run_next : {A : Type 0} (f : A → Dealt) (setting : Setting) (e : ℕ) (all : List A) (i : ℕ) (x : A) (before now : Counts) (c : Came)
    (seat after : SeatState) → i < length all → x ≡ get_or all i x → seat.examiner ≡ e → IsLater seat after
    → IsCameOf setting seat (f x) c after → now ≡ with_came c before → IsRunTo setting e (map f (take i all)) before.outcomes seat.seen
    → IsRunTo setting e (map f (take (i + 1) all)) now.outcomes after.seen
run_next {A = A} f setting e all i x before now c seat after within here own later is counted run =
    let more = run_on setting e (map f (take i all)) (f x) before c seat after own later is run in
    let items : map f (take (i + 1) all) ≡ map f (take i all) ++ f x ∷ [] =
    ap (map f) (take_more all i x within ∙ ap (λ (y : A). take i all ++ y ∷ []) (sym here)) ∙ map-append f (take i all) (x ∷ []) in
    let read = subst (λ (l : List Dealt). IsRunTo setting e l (with_came c before).outcomes after.seen) (sym items) more in
    subst (λ (n : Counts). IsRunTo setting e (map f (take (i + 1) all)) n.outcomes after.seen) (sym counted) read

-- what came of the first transactions is what came of all, where none is run after them
pub run_whole : {A : Type 0} (f : A → Dealt) (setting : Setting) (e : ℕ) (all : List A) (i : ℕ) (outcomes : List Outcome) (top : ℕ)
    → IsRunTo setting e (map f (take i all)) outcomes top → IsRunOf setting e (map f all) outcomes
run_whole f setting e all i outcomes top run =
    let whole : map f (take i all) ++ map f (drop i all) ≡ map f all =
    sym (map-append f (take i all) (drop i all)) ∙ ap (map f) (take-append-drop i all) in record {
      outcomes_are = subst (λ (l : List Dealt). AreOutcomesOf setting e l outcomes) whole
          (others_came setting e (map f (take i all)) (map f (drop i all)) outcomes run.outcomes_are);
      in_order = rise 0 outcomes top run.rise;
    }
