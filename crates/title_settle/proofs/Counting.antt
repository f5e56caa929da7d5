-- Settled outcomes are as many as the records: they are counted place by place.
use Rattle.std.proofs.Common.{◌≡◌, ℕ, ◌<◌, ◌≤◌, ◌+◌, zero, suc, eqb, List, [], ◌∷◌, length, refl, sym, ◌∙◌, ap, arith, inl, inr}
use Rattle.std.proofs.lemmas.{Bool.{cases_eq, eq-eqb, ne_eqb, cond-true, cond-false}, List.Elements.{All-head, All-tail}}
use Rattle.std.specs.List.{All}
use Rattle.title_chain.specs.declared.record.Record.{Record}
use Rattle.title_settle.specs.{declared.outcome.Outcome.{Outcome}, Settling.{outcomes_at, IsSettled}}

-- how many outcomes have one of so many places
abbrev total : ℕ → List Outcome → ℕ
total zero outcomes = 0
total (suc n) outcomes = total n outcomes + length (outcomes_at outcomes (suc n))

count_here : (o : Outcome) (outcomes : List Outcome) (place : ℕ) → o.place ≡ place →
    length (outcomes_at (o ∷ outcomes) place) ≡ length (outcomes_at outcomes place) + 1
count_here o outcomes place e =
    let others = outcomes_at outcomes place in
    let one = ap length (cond-true (eqb o.place place) (o ∷ others) others (eq-eqb o.place place e)) in
    omega arith

count_elsewhere : (o : Outcome) (outcomes : List Outcome) (place : ℕ) → (o.place ≡ place → ⊥) →
    length (outcomes_at (o ∷ outcomes) place) ≡ length (outcomes_at outcomes place)
count_elsewhere o outcomes place n =
    ap length (cond-false (eqb o.place place) (o ∷ outcomes_at outcomes place) (outcomes_at outcomes place) (ne_eqb o.place place n))

total_none : (n : ℕ) → total n [] ≡ 0
total_none zero = refl
total_none (suc n) = let before = total_none n in omega arith

total_past : (n : ℕ) (o : Outcome) (outcomes : List Outcome) → n < o.place → total n (o ∷ outcomes) ≡ total n outcomes
total_past zero o outcomes high = refl
total_past (suc n) o outcomes high =
    let before = total_past n o outcomes (omega arith) in
    let here = count_elsewhere o outcomes (suc n) (λ e. omega arith) in
    omega arith

total_within : (n : ℕ) (o : Outcome) (outcomes : List Outcome) → 1 ≤ o.place → o.place ≤ n →
    total n (o ∷ outcomes) ≡ total n outcomes + 1
total_within zero o outcomes low high = absurd (omega arith)
total_within (suc n) o outcomes low high = elim (cases_eq o.place (suc n)) [
  | inl e ↦
      let before = total_past n o outcomes (omega arith) in
      let here = count_here o outcomes (suc n) e in
      omega arith
  | inr other ↦
      let before = total_within n o outcomes low (omega arith) in
      let here = count_elsewhere o outcomes (suc n) other in
      omega arith
]

total_known : (n : ℕ) (outcomes : List Outcome) → All (λ o. (1 ≤ o.place) × (o.place ≤ n)) outcomes → total n outcomes ≡ length outcomes
total_known n [] known = total_none n
total_known n (o ∷ outcomes) known =
    let is = All-head (λ (x : Outcome). (1 ≤ x.place) × (x.place ≤ n)) o outcomes known in
    let one = total_within n o outcomes is.0 is.1 in
    let others = total_known n outcomes (All-tail (λ (x : Outcome). (1 ≤ x.place) × (x.place ≤ n)) o outcomes known) in
    omega arith

total_right : (n : ℕ) (outcomes : List Outcome) →
    ((place : ℕ) → 1 ≤ place → place ≤ n → length (outcomes_at outcomes place) ≡ 1) → total n outcomes ≡ n
total_right zero outcomes right = refl
total_right (suc n) outcomes right =
    let before = total_right n outcomes (λ place low high. right place low (omega arith)) in
    let here = right (suc n) (omega arith) (omega arith) in
    omega arith

pub as_many : (records : List Record) (outcomes : List Outcome) → IsSettled records outcomes → length outcomes ≡ length records
as_many records outcomes h =
    sym (total_known (length records) outcomes h.0)
    ∙ total_right (length records) outcomes (λ place low high. ap length (h.1 place (low, high)).2)
