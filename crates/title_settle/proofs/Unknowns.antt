-- The least unknown place once one more outcome is seen.
use Rattle.std.proofs.Common.{◌≡◌, ◌≢◌, ℕ, ◌≤◌, ◌&&◌, List, [], ◌∷◌, ◌++◌, length, Option, Some, None, refl, sym, ◌∙◌, arith, leb}
use Rattle.std.proofs.lemmas.Bool.{leb-true, leb-false, le-leb, and_parts, and_from, both_ways, cond_both}
use Rattle.std.proofs.lemmas.List.Elements.{All-push, All-weaker}
use Rattle.title_chain.specs.declared.record.Record.{Record}
use Rattle.title_settle.{specs.{declared.outcome.Outcome.{Outcome}, Settling.{outcomes_at, IsPlace}}, proofs.Seen.{seen_more, seen_here}}
use Rattle.title_settle.specs.Marks.{IsLeastUnknown, lesser, least_with}

not_nil : (xs ys : List Outcome) → (xs ≡ [] → ⊥) → xs ++ ys ≡ [] → ⊥
not_nil [] ys n e = n refl
not_nil (x ∷ xs) ys n e = absurd cc

pushed_not_nil : (xs : List Outcome) (o : Outcome) → xs ++ o ∷ [] ≡ [] → ⊥
pushed_not_nil [] o e = absurd cc
pushed_not_nil (x ∷ xs) o e = absurd cc

still_seen : (seen : List Outcome) (o : Outcome) (place : ℕ) → outcomes_at seen place ≢ [] → outcomes_at (seen ++ o ∷ []) place ≢ []
still_seen seen o place n e = not_nil (outcomes_at seen place) _ n (sym (seen_more seen o place) ∙ e)

seen_now : (seen : List Outcome) (o : Outcome) → outcomes_at (seen ++ o ∷ []) o.place ≢ []
seen_now seen o e = pushed_not_nil (outcomes_at seen o.place) o (sym (seen_here seen o o.place refl) ∙ e)

-- its place is known
known_more : (records : List Record) (seen : List Outcome) (least : Option ℕ) (o : Outcome) → IsPlace records o.place →
    IsLeastUnknown records seen least → IsLeastUnknown records (seen ++ o ∷ []) least
known_more records seen None o is h = All-push (λ (x : Outcome). IsPlace records x.place) seen o h is
known_more records seen (Some place) o is h = (
  still_seen seen o place h.0,
  h.1,
  All-push (λ (x : Outcome). (IsPlace records x.place → ⊥) → place ≤ x.place) seen o h.2 (λ n. absurd (n is)),
)

-- it isn't
unknown_more : (records : List Record) (seen : List Outcome) (least : Option ℕ) (o : Outcome) → (IsPlace records o.place → ⊥) →
    IsLeastUnknown records seen least → IsLeastUnknown records (seen ++ o ∷ []) (lesser least o.place)
unknown_more records seen None o isnt h = (
  seen_now seen o,
  isnt,
  All-push (λ (x : Outcome). (IsPlace records x.place → ⊥) → o.place ≤ x.place) seen o
      (All-weaker (λ (x : Outcome). IsPlace records x.place) (λ (x : Outcome). (IsPlace records x.place → ⊥) → o.place ≤ x.place)
      (λ x is n. absurd (n is)) seen h)
      (λ n. omega arith),
)
unknown_more records seen (Some place) o isnt h =
    cond_both (leb place o.place) (Some place) (Some o.place) (IsLeastUnknown records (seen ++ o ∷ []))
    (λ t. let low = leb-true place o.place t in (
      still_seen seen o place h.0,
      h.1,
      All-push (λ (x : Outcome). (IsPlace records x.place → ⊥) → place ≤ x.place) seen o h.2 (λ n. low),
    ))
    (λ f. let high = leb-false place o.place f in (
      seen_now seen o,
      isnt,
      All-push (λ (x : Outcome). (IsPlace records x.place → ⊥) → o.place ≤ x.place) seen o
          (All-weaker (λ (x : Outcome). (IsPlace records x.place → ⊥) → place ≤ x.place)
          (λ (x : Outcome). (IsPlace records x.place → ⊥) → o.place ≤ x.place)
          (λ x is n. let low : place ≤ x.place = is n in omega arith) seen h.2)
          (λ n. omega arith),
    ))

pub least_more : (records : List Record) (seen : List Outcome) (least : Option ℕ) (o : Outcome) →
    IsLeastUnknown records seen least → IsLeastUnknown records (seen ++ o ∷ []) (least_with least (length records) o.place)
least_more records seen least o h =
    cond_both (leb 1 o.place && leb o.place (length records)) least (lesser least o.place) (IsLeastUnknown records (seen ++ o ∷ []))
    (λ t. let parts = and_parts (leb 1 o.place) (leb o.place (length records)) t in
    known_more records seen least o (leb-true 1 o.place parts.0, leb-true o.place (length records) parts.1) h)
    (λ f. unknown_more records seen least o
    (λ is. both_ways _ f (and_from (leb 1 o.place) (leb o.place (length records)) (le-leb 1 o.place is.0)
    (le-leb o.place (length records) is.1)))
    h)
