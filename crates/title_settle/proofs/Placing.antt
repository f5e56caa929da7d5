-- What the places so far say of all.
use Rattle.std.proofs.Common.{◌≡◌, ℕ, ◌<◌, ◌≤◌, ◌+◌, zero, suc, List, [], ◌∷◌, length, Some, sym, ◌∙◌, subst, arith, inl, inr}
use Rattle.std.{proofs.lemmas.{Bool.{cases_lt}, Option.{slice_get_within}}, specs.List.{slice_get}}
use Rattle.title_chain.specs.declared.record.Record.{Record}
use Rattle.title_settle.specs.{declared.outcome.{Outcome.{Outcome}, Unsettled.{Unsettled}}, Marks.{IsWrongAt}}
use Rattle.title_settle.specs.Settling.{outcomes_at, AreKnown, IsRight, IsSettled, IsFirstWrong, IsUneven}
use Rattle.title_settle.specs.declared.outcome.Unsettled.TheVariants as unsettled

-- so many places are right
abbrev pub AreRight : List Record → List Outcome → ℕ → Type 0
AreRight records outcomes n = (k : ℕ) → k < n → IsRight records outcomes (suc k)

right_before : (records : List Record) (outcomes : List Outcome) (n : ℕ) → AreRight records outcomes n →
    (place : ℕ) → 1 ≤ place → place ≤ n → IsRight records outcomes place
right_before records outcomes n h zero low high = absurd (omega arith)
right_before records outcomes n h (suc k) low high = h k (omega arith)

pub right_more : (records : List Record) (outcomes : List Outcome) (n place : ℕ) (r : Record) → place ≡ suc n →
    slice_get records n ≡ Some r → outcomes_at outcomes place ≡ record { place = place; rec = r } ∷ [] → AreRight records outcomes n →
    AreRight records outcomes (n + 1)
right_more records outcomes n place r e at one h k lt = elim (cases_lt k n) [
  | inl low ↦ h k low
  | inr high ↦
      let same : n ≡ k = omega arith in
      subst (λ (j : ℕ). IsRight records outcomes (suc j)) same
      (r, at, subst (λ (p : ℕ). outcomes_at outcomes p ≡ record { place = p; rec = r } ∷ []) e one)
]

pub all_settled : (records : List Record) (outcomes : List Outcome) (n : ℕ) → length records ≤ n → AreKnown records outcomes →
    AreRight records outcomes n → IsSettled records outcomes
all_settled records outcomes n enough known h =
    (known, λ place is. right_before records outcomes n h place is.0 (omega arith))

first_wrong : (records : List Record) (outcomes : List Outcome) (n : ℕ) (r : Record) → slice_get records n ≡ Some r →
    AreKnown records outcomes → AreRight records outcomes n → IsFirstWrong records outcomes (suc n)
first_wrong records outcomes n r at known h =
    let within = slice_get_within records n r at in
    (known, (omega arith, omega arith), λ before low lt. right_before records outcomes n h before low (omega arith))

-- what is wrong at the first place at fault is why they aren't settled
pub uneven_at : (records : List Record) (outcomes : List Outcome) (n place : ℕ) (r : Record) (why : Unsettled) → place ≡ suc n →
    slice_get records n ≡ Some r → AreKnown records outcomes → AreRight records outcomes n →
    IsWrongAt outcomes place r why → IsUneven records outcomes why
uneven_at records outcomes n at_place r (unsettled.Missing place) e at known h wrong =
    subst (λ (p : ℕ). IsUneven records outcomes (unsettled.Missing p)) (sym (wrong.0 ∙ e))
    (first_wrong records outcomes n r at known h, subst (λ (p : ℕ). outcomes_at outcomes p ≡ []) e wrong.1)
uneven_at records outcomes n at_place r (unsettled.Doubled place) e at known h wrong =
    subst (λ (p : ℕ). IsUneven records outcomes (unsettled.Doubled p)) (sym (wrong.0 ∙ e))
    (first_wrong records outcomes n r at known h, subst (λ (p : ℕ). 2 ≤ length (outcomes_at outcomes p)) e wrong.1)
uneven_at records outcomes n at_place r (unsettled.Different place) e at known h wrong =
    let one = subst (λ (p : ℕ). outcomes_at outcomes p ≡ wrong.1.0 ∷ []) e wrong.1.1 in
    subst (λ (p : ℕ). IsUneven records outcomes (unsettled.Different p)) (sym (wrong.0 ∙ e))
    (first_wrong records outcomes n r at known h, (wrong.1.0, r, one, at, wrong.1.2))
uneven_at records outcomes n at_place r (unsettled.Open examiner) e at known h wrong = absurd wrong
uneven_at records outcomes n at_place r (unsettled.Unknown place) e at known h wrong = absurd wrong
uneven_at records outcomes n at_place r unsettled.Memory e at known h wrong = absurd wrong
