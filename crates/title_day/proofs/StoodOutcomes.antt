-- Where an office is settled by outcomes of which the first are what stood, its records begin with that.
use Rattle.std.proofs.Common.{◌≡◌, ◌∙◌, ◌+◌, ◌<◌, ℕ, zero, suc, eqb, cond, Bool, true, false, refl, sym, ap, ap₂, subst, arith}
use Rattle.std.{proofs.{Common.{List, [], ◌∷◌, ◌++◌, get_or, length, reverse, take, Some}, lemmas.Bool.{eq-eqb, ne_eqb}}, specs.List.{All}}
use Rattle.std.{proofs.lemmas.List.{reverse-append, take_more, length-take, Elements.{All-head, All-tail}}, specs.Prelude.{slice_get}}
use mathlib.Core.List.{IsPrefix}
use Rattle.title_chain.specs.declared.record.Record.{Record}
use Rattle.title_settle.specs.{declared.outcome.Outcome.{Outcome}, Settling.{IsPlace, IsSettled, outcomes_at}}
use Rattle.title_day.specs.OfficeRecords.{placed}

-- ---- placing

pub length_placed : (n : ℕ) (records : List Record) → length (placed n records) ≡ length records
length_placed n [] = refl
length_placed n (r ∷ records) = ap suc (length_placed (suc n) records)

-- one record more
placed_push : (n : ℕ) (records : List Record) (x : Record)
    → placed n (records ++ x ∷ []) ≡ placed n records ++ record { place = n + length records; rec = x } ∷ []
placed_push n [] x =
    let here : n ≡ n + length {A = Record} [] = omega arith in
    ap (λ (p : ℕ). record { place = p; rec = x } ∷ []) here
placed_push n (r ∷ records) x =
    let there : suc n + length records ≡ n + length (r ∷ records) = omega arith in
    ap (λ (os : List Outcome). record { place = n; rec = r } ∷ os)
    (placed_push (suc n) records x ∙ ap (λ (p : ℕ). placed (suc n) records ++ record { place = p; rec = x } ∷ []) there)

pub placed_more : (records : List Record) (i : ℕ) (x y : Record) (place : ℕ) → i < length records → x ≡ get_or records i x → y ≡ x
    → place ≡ i + 1 → placed 1 (take i records) ++ record { place = place; rec = y } ∷ [] ≡ placed 1 (take (i + 1) records)
placed_more records i x y place lt is same at =
    let many : place ≡ 1 + length (take i records) = omega (arith, at, lt, length-take i records) in
    ap₂ (λ (p : ℕ) (z : Record). placed 1 (take i records) ++ record { place = p; rec = z } ∷ []) many (same ∙ is)
    ∙ sym (placed_push 1 (take i records) (get_or records i x))
    ∙ ap (placed 1) (sym (take_more records i x lt))

-- ---- the outcomes of a place

at_joined : (xs ys : List Outcome) (p : ℕ) → outcomes_at (xs ++ ys) p ≡ outcomes_at xs p ++ outcomes_at ys p
at_joined [] ys p = refl
at_joined (x ∷ xs) ys p = go (eqb x.place p) (at_joined xs ys p)
  where
    go : (b : Bool) → outcomes_at (xs ++ ys) p ≡ outcomes_at xs p ++ outcomes_at ys p
        → cond b (x ∷ outcomes_at (xs ++ ys) p) (outcomes_at (xs ++ ys) p)
        ≡ cond b (x ∷ outcomes_at xs p) (outcomes_at xs p) ++ outcomes_at ys p
    go true rest = ap (λ (os : List Outcome). x ∷ os) rest
    go false rest = rest

none_before : (n p : ℕ) (records : List Record) → p < n → outcomes_at (placed n records) p ≡ []
none_before n p [] low = refl
none_before n p (r ∷ records) low =
    let other = ne_eqb n p (λ same. omega (arith, low, same)) in
    rw other (none_before (suc n) p records (omega (arith, low)))

-- the record in a place
one_there : (n i : ℕ) (records : List Record) (r : Record) → slice_get records i ≡ Some r
    → outcomes_at (placed n records) (n + i) ≡ record { place = n + i; rec = r } ∷ []
one_there n i [] r is = absurd (cc is)
one_there n zero (x ∷ records) r is =
    let here = eq-eqb n (n + zero) (omega arith) in
    let same : x ≡ r = cc is in
    let at : n ≡ n + zero = omega arith in
    rw (here, none_before (suc n) (n + zero) records (omega arith))
    (ap₂ (λ (p : ℕ) (y : Record). record { place = p; rec = y } ∷ []) at same)
one_there n (suc i) (x ∷ records) r is =
    let other = ne_eqb n (n + suc i) (λ same. omega (arith, same)) in
    let there : suc n + i ≡ n + suc i = omega arith in
    rw other (subst (λ (p : ℕ). outcomes_at (placed (suc n) records) p ≡ record { place = p; rec = r } ∷ []) there
    (one_there (suc n) i records r is))

-- what all outcomes have, that of a place has
known_there : (P : Outcome → Type 0) (n i : ℕ) (records : List Record) (others : List Outcome) (r : Record)
    → All P (placed n records ++ others) → slice_get records i ≡ Some r → P (record { place = n + i; rec = r })
known_there P n i [] others r all is = absurd (cc is)
known_there P n zero (x ∷ records) others r all is =
    let same : x ≡ r = cc is in
    let at : n ≡ n + zero = omega arith in
    subst P (ap₂ (λ (p : ℕ) (y : Record). record { place = p; rec = y }) at same)
    (All-head P (record { place = n; rec = x }) (placed (suc n) records ++ others) all)
known_there P n (suc i) (x ∷ records) others r all is =
    let there : suc n + i ≡ n + suc i = omega arith in
    subst (λ (p : ℕ). P (record { place = p; rec = r })) there
    (known_there P (suc n) i records others r (All-tail P (record { place = n; rec = x }) (placed (suc n) records ++ others) all) is)

first_same : (a b : Outcome) (xs : List Outcome) → a ∷ xs ≡ b ∷ [] → a ≡ b
first_same a b xs h = cc h

-- ---- the records

-- in each place that stood the same record stands
stood_there : (records old : List Record) (others : List Outcome) → IsSettled records (placed 1 old ++ others) → (i : ℕ) (r : Record)
    → slice_get old i ≡ Some r → slice_get records i ≡ Some r
stood_there records old others settled i r is =
    let next : 1 + i ≡ suc i = omega arith in
    let place : IsPlace records (suc i) =
    subst (IsPlace records) next (known_there (λ o. IsPlace records o.place) 1 i old others r settled.0 is) in
    let right = settled.1 (suc i) place in
    let here : outcomes_at (placed 1 old) (suc i) ≡ record { place = suc i; rec = r } ∷ [] =
    subst (λ (p : ℕ). outcomes_at (placed 1 old) p ≡ record { place = p; rec = r } ∷ []) next (one_there 1 i old r is) in
    let both : record { place = suc i; rec = r } ∷ outcomes_at others (suc i) ≡ record { place = suc i; rec = right.0 } ∷ [] =
    ap (λ (os : List Outcome). os ++ outcomes_at others (suc i)) (sym here)
    ∙ sym (at_joined (placed 1 old) others (suc i)) ∙ right.2 in
    let same : right.0 ≡ r =
    sym (ap (λ (o : Outcome). o.rec) (first_same (record { place = suc i; rec = r }) (record { place = suc i; rec = right.0 })
    (outcomes_at others (suc i)) both)) in
    right.1 ∙ ap (λ (x : Record). Some x) same

begins_with : (old records : List Record) → ((i : ℕ) (r : Record) → slice_get old i ≡ Some r → slice_get records i ≡ Some r)
    → IsPrefix old records
begins_with [] records same = (records, refl)
begins_with (x ∷ old) [] same = absurd (cc (same 0 x refl))
begins_with (x ∷ old) (y ∷ records) same =
    let first : y ≡ x = some_same y x (same 0 x refl) in
    let rest = begins_with old records (λ i r is. same (suc i) r is) in
    (rest.0, ap₂ (λ (z : Record) (rs : List Record). z ∷ rs) (sym first) rest.1)
  where
    some_same : (a b : Record) → Some a ≡ Some b → a ≡ b
    some_same a b h = cc h

-- so the records begin with what stood, and those behind it are new
pub goes_on : (records old : List Record) (stood all others : List Outcome) → stood ≡ placed 1 old → all ≡ stood ++ others
    → IsSettled records all → (news : List Record) × (reverse records ≡ news ++ reverse old)
goes_on records old stood all others is joined settled =
    let sorted = subst (IsSettled records) (joined ∙ ap (λ (os : List Outcome). os ++ others) is) settled in
    let front = begins_with old records (stood_there records old others sorted) in
    (reverse front.0, ap reverse (sym front.1) ∙ reverse-append old front.0)
