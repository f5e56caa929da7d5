-- Laws of what is out, kept under its numbers.
use Rattle.std.proofs.Common.{◌≡◌, ℕ, ◌<◌, Bool, true, false, cond, List, [], ◌∷◌, ◌++◌, Some, refl, sym, ap, subst, ◌∙◌, inl, inr}
use Rattle.std.proofs.{Common.{eqb, arith, true≢false}, lemmas.Bool.{eqb-true, eq-eqb, eqb-false, false_from_ne_true}}
use Rattle.std.specs.{List.{AllByRecursion}, declared.cmp.Ordering.{Ordering, TheVariants.{Less, Greater}}, BTreeMap.{is_at, insert_entry}}
use Rattle.std.specs.{Ordering.{nat_cmp, is_eq, match_ordering}, Cmp.{Equal-is, tied_itself, nat_cmp_total}}
use Rattle.std.{proofs.lemmas.Cmp.{by_ranked, ranked}, specs.{Map.{lookup, remove_entry, keys_of}, List.Sorted.{IsStrictlySortedBy}}}
use Rattle.std.proofs.lemmas.Map.{Keys.{sorted_head, sorted_tail}, Lookups.{exact_unsigned}}
use Rattle.title_cell_store.specs.{declared.kept.Lent.{Lent}, CellMaps.{loan_of, loans_of}}
use Rattle.title_store.specs.{Loans.{Loan, IsAmong, IsLentAs, AllBelow, without}, Laws.LoanLaws.{among_push}}

at_number : (n k : ℕ) → is_at (nat_cmp n) k ≡ eqb n k
at_number n k = go (eqb n k) refl
  where
    go : (b : Bool) → eqb n k ≡ b → is_at (nat_cmp n) k ≡ b
    go true e = (Equal-is (nat_cmp n k)).1 (ap (nat_cmp n) (sym (eqb-true n k e)) ∙ tied_itself nat_cmp_total n)
    go false e = false_from_ne_true _ (λ h. eqb-false n k e (exact_unsigned n k ((Equal-is (nat_cmp n k)).0 h)))

above_is : (n k : ℕ) → k < n → nat_cmp n k ≡ Greater
above_is n k l =
    by_ranked (n < k) (n ≡ k) (k < n) {G = nat_cmp n k ≡ Greater} (nat_cmp n k) (ranked n k (nat_cmp n k) refl)
    (λ e less. absurd (omega arith)) (λ e same. absurd (omega arith)) (λ e more. e)

-- a number above all others stands last
pub insert_last : (es : List (ℕ × Lent)) (n : ℕ) (l : Lent) → AllBelow n (loans_of es) → insert_entry nat_cmp es n l ≡ es ++ (n, l) ∷ []
insert_last [] n l h = refl
insert_last (e ∷ es) n l h =
    ap (λ (o : Ordering). match_ordering o ((n, l) ∷ e ∷ es) ((e.0, l) ∷ es) (e ∷ insert_entry nat_cmp es n l))
    (above_is n e.0 (h (loan_of e) (inl refl)))
    ∙ ap (λ (xs : List (ℕ × Lent)). e ∷ xs) (insert_last es n l (λ x i. h x (inr i)))

pub loans_push : (es : List (ℕ × Lent)) (e : ℕ × Lent) → loans_of (es ++ e ∷ []) ≡ loans_of es ++ loan_of e ∷ []
loans_push [] e = refl
loans_push (x ∷ es) e = ap (λ (xs : List Loan). loan_of x ∷ xs) (loans_push es e)

-- numbers stay below the next with one more image out, which has the number before
pub below_push : (n next : ℕ) (es : List (ℕ × Lent)) (l : Lent) → n < next → AllBelow n (loans_of es)
    → AllBelow next (loans_of (es ++ (n, l) ∷ []))
below_push n next es l more h x i =
    elim (among_push x (loans_of es) (loan_of (n, l)) (subst (λ (out : List Loan). IsAmong x out) (loans_push es (n, l)) i)) [
      | inl old ↦ (let low = h x old in omega (arith, low, more))
      | inr new ↦ (let e = ap (λ (y : Loan). y.number) new in omega (arith, e, more))
    ]

-- without a number that none has, nothing changes
without_none : (n : ℕ) (es : List (ℕ × Lent)) → AllByRecursion (λ k. nat_cmp n k ≡ Less) (keys_of es)
    → without n (loans_of es) ≡ loans_of es
without_none n [] h = refl
without_none n (e ∷ es) h =
    ap (λ (b : Bool). cond b (without n (loans_of es)) (loan_of e ∷ without n (loans_of es))) (sym (at_number n e.0) ∙ ap is_eq h.0)
    ∙ ap (λ (xs : List Loan). loan_of e ∷ xs) (without_none n es h.1)

pub loans_without : (n : ℕ) (es : List (ℕ × Lent)) → IsStrictlySortedBy nat_cmp (keys_of es)
    → loans_of (remove_entry (is_at (nat_cmp n)) es) ≡ without n (loans_of es)
loans_without n [] s = refl
loans_without n (e ∷ es) s = go (eqb n e.0) refl (at_number n e.0) (loans_without n es (sorted_tail nat_cmp e.0 (keys_of es) s))
  where
    go : (b : Bool) → eqb n e.0 ≡ b → is_at (nat_cmp n) e.0 ≡ eqb n e.0
        → loans_of (remove_entry (is_at (nat_cmp n)) es) ≡ without n (loans_of es)
        → loans_of (cond (is_at (nat_cmp n) e.0) es (e ∷ remove_entry (is_at (nat_cmp n)) es))
        ≡ cond (eqb n e.0) (without n (loans_of es)) (loan_of e ∷ without n (loans_of es))
    go true h a rest =
        let later = subst (λ (k : ℕ). AllByRecursion (λ y. nat_cmp k y ≡ Less) (keys_of es)) (sym (eqb-true n e.0 h))
        (sorted_head nat_cmp e.0 (keys_of es) s) in
        rw (a, h) (sym (without_none n es later))
    go false h a rest = rw (a, h) (ap (λ (xs : List Loan). loan_of e ∷ xs) rest)

-- no image under later numbers has this one
none_later : (n : ℕ) (es : List (ℕ × Lent)) (b : Loan) → AllByRecursion (λ k. nat_cmp n k ≡ Less) (keys_of es) → IsLentAs b n (loans_of es)
    → ⊥
none_later n [] b h lent = lent.0
none_later n (e ∷ es) b h lent = elim lent.0 [
  | inl same ↦ (let number = sym lent.1 ∙ ap (λ (x : Loan). x.number) same in
      true≢false (sym (eq-eqb n e.0 number) ∙ sym (at_number n e.0) ∙ ap is_eq h.0))
  | inr later ↦ none_later n es b h.1 (later, lent.1)
]

-- an image that is out under a number is found under it
pub found_as : (n : ℕ) (es : List (ℕ × Lent)) → IsStrictlySortedBy nat_cmp (keys_of es) → (b : Loan) → IsLentAs b n (loans_of es) →
    (l : Lent) × (lookup (is_at (nat_cmp n)) es ≡ Some l) × (b ≡ loan_of (n, l))
found_as n [] s b lent = absurd lent.0
found_as n (e ∷ es) s b lent = go (eqb n e.0) refl (λ i. found_as n es (sorted_tail nat_cmp e.0 (keys_of es) s) b (i, lent.1))
  where
    go : (t : Bool) → eqb n e.0 ≡ t → (IsAmong b (loans_of es)
        → (l : Lent) × (lookup (is_at (nat_cmp n)) es ≡ Some l) × (b ≡ loan_of (n, l)))
        → (l : Lent) × (lookup (is_at (nat_cmp n)) (e ∷ es) ≡ Some l) × (b ≡ loan_of (n, l))
    go true h rest = elim lent.0 [
      | inl same ↦ (e.1, rw (at_number n e.0, h) refl, same ∙ ap (λ (k : ℕ). loan_of (k, e.1)) (sym (eqb-true n e.0 h)))
      | inr later ↦ absurd (none_later n es b (subst (λ (k : ℕ). AllByRecursion (λ y. nat_cmp k y ≡ Less) (keys_of es))
          (sym (eqb-true n e.0 h)) (sorted_head nat_cmp e.0 (keys_of es) s)) (later, lent.1))
    ]
    go false h rest = elim lent.0 [
      | inl same ↦ absurd (eqb-false n e.0 h (sym lent.1 ∙ ap (λ (x : Loan). x.number) same))
      | inr later ↦ (let f = rest later in (f.0, rw (at_number n e.0, h) f.1, f.2))
    ]
