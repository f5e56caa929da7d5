-- The outcomes with a place once one more is seen.
use Rattle.std.proofs.Common.{◌≡◌, ℕ, eqb, cond, List, [], ◌∷◌, ◌++◌, ◌<◌, ◌+◌, length, take, get_or, sym, subst, ◌∙◌, ap}
use Rattle.std.{proofs.lemmas.{Bool.{eq-eqb, ne_eqb}, List.{append-nil, take_more, Elements.{filter-append}}}, specs.List.{All}}
use Rattle.title_settle.specs.{declared.outcome.Outcome.{Outcome}, Settling.{outcomes_at}}

pub seen_more : (seen : List Outcome) (o : Outcome) (place : ℕ) →
    outcomes_at (seen ++ o ∷ []) place ≡ outcomes_at seen place ++ cond (eqb o.place place) (o ∷ []) []
seen_more seen o place = filter-append (λ (x : Outcome). eqb x.place place) seen (o ∷ [])

-- it has the place
pub seen_here : (seen : List Outcome) (o : Outcome) (place : ℕ) → o.place ≡ place →
    outcomes_at (seen ++ o ∷ []) place ≡ outcomes_at seen place ++ o ∷ []
seen_here seen o place e =
    seen_more seen o place
    ∙ ap (λ test. outcomes_at seen place ++ cond test (o ∷ []) []) (eq-eqb o.place place e)

-- it has another
pub seen_elsewhere : (seen : List Outcome) (o : Outcome) (place : ℕ) → (o.place ≡ place → ⊥) →
    outcomes_at (seen ++ o ∷ []) place ≡ outcomes_at seen place
seen_elsewhere seen o place n =
    seen_more seen o place
    ∙ ap (λ test. outcomes_at seen place ++ cond test (o ∷ []) []) (ne_eqb o.place place n)
    ∙ append-nil (outcomes_at seen place)

-- the outcome at an index is the next
pub taken_more : (outcomes : List Outcome) (i : ℕ) (o : Outcome) → i < length outcomes → o ≡ get_or outcomes i o →
    take (i + 1) outcomes ≡ take i outcomes ++ o ∷ []
taken_more outcomes i o low at = take_more outcomes i o low ∙ ap (λ (x : Outcome). take i outcomes ++ x ∷ []) (sym at)

-- what each outcome has, the one at an index has
pub holds_at : (P : Outcome → Type 0) (outcomes : List Outcome) (i : ℕ) (o : Outcome) → i < length outcomes → o ≡ get_or outcomes i o →
    All P outcomes → P o
holds_at P outcomes i o low at h = subst P (sym at) (h i o low)
