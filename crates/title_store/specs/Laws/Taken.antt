-- Laws of the image that a put has taken: it is the last that is out, and the only one where none was.
use Rattle.std.proofs.Common.{◌≡◌, ◌≢◌, ℕ, ◌<◌, Bool, true, false, cond, eqb, List, [], ◌∷◌, ◌++◌, refl, ap, ◌∙◌, sym, subst, inl, inr, ◌⊎◌}
use Rattle.std.proofs.{Common.{arith}, lemmas.Bool.{cases_eq, cond_both, eq-eqb, ne_eqb}}
use Rattle.title_land.specs.{Depth.{depth}, declared.{survey.Township.{Township}, tract.Land.{Land}}}
use Rattle.title_instrument.specs.declared.instrument.Instrument.{Instrument}
use Rattle.title_store.specs.Plants.{Plant, SameContent, is_cell_of, plant_effect}
use Rattle.title_store.specs.Loans.{Loan, IsAmong, IsLentAs, IsOut, IsLast, IsFirst, IsTaken, without}
use Rattle.title_store.specs.Laws.{EffectLaws.{effect_outside}, LoanLaws.{among_push}}

-- cases on whether two numbers are one
pub case_eqb : (P : Bool → Type 0) (f e : ℕ) → (f ≡ e → P true) → (f ≢ e → P false) → P (eqb f e)
case_eqb P f e same other = elim (cases_eq f e) [
  | inl is ↦ subst P (sym (eq-eqb f e is)) (same is)
  | inr ne ↦ subst P (sym (ne_eqb f e ne)) (other ne)
]

among_last : (b : Loan) (out : List Loan) → IsAmong b (out ++ b ∷ [])
among_last b [] = inl refl
among_last b (x ∷ out) = inr (among_last b out)

without_last : (x : Loan) (out : List Loan) → ((b : Loan) → IsAmong b out → b.number < x.number) → without x.number (out ++ x ∷ []) ≡ out
without_last x [] h = case_eqb (λ b. cond b [] (x ∷ []) ≡ []) x.number x.number (λ _. refl) (λ ne. absurd (ne refl))
without_last x (y ∷ out) h =
    case_eqb (λ b. cond b (without x.number (out ++ x ∷ [])) (y ∷ without x.number (out ++ x ∷ [])) ≡ y ∷ out) x.number y.number
    (λ same. absurd (let below : y.number < x.number = h y (inl refl) in omega arith))
    (λ _. ap (λ z. y ∷ z) (without_last x out (λ b k. h b (inr k))))

module _ {n : ℕ} {ts : List Township} {land : Land} {before : Plant} {out out' : List Loan}
    (taken : IsTaken n ts land before out out') where
  -- the image that was taken
  abbrev pub new_loan : Loan
  new_loan = record { number = n; land = land; held = taken.held }

  pub among_now : (b : Loan) → IsAmong b out' → IsAmong b out ⊎ (b ≡ new_loan)
  among_now b at = among_push b out new_loan (subst (IsAmong b) taken.last at)

  pub is_new : (b : Loan) → IsLentAs b n out' → b ≡ new_loan
  is_new b lent = elim (among_now b lent.0) [
    | inl old ↦ absurd (let low : b.number < n = taken.above b old in let same : b.number ≡ n = lent.1 in omega arith)
    | inr is ↦ is
  ]

  new_lent : IsLentAs new_loan n out'
  new_lent = (subst (IsAmong new_loan) (sym taken.last) (among_last new_loan out), refl)

  -- it is out
  pub image_out : IsOut n out'
  image_out = (new_loan, new_lent)

  -- and the last one
  pub image_last : IsLast n out'
  image_last b x lent at higher = elim (among_now x at) [
    | inl old ↦ absurd (let low : x.number < n = taken.above x old in omega arith)
    | inr is ↦ absurd (let same : x.number ≡ n = ap (λ z. z.number) is in omega arith)
  ]

  -- and the first one, where no other is out
  pub image_first : out ≡ [] → IsFirst n out'
  image_first none b x lent at lower = elim (among_now x at) [
    | inl old ↦ absurd (subst (IsAmong x) none old)
    | inr is ↦ absurd (let same : x.number ≡ n = ap (λ z. z.number) is in omega arith)
  ]

  -- put back at once, it leaves the plant and the list as they were
  pub taken_back : (i : Instrument ℕ) (mid after : Plant) → SameContent (plant_effect depth ts i before land) mid
      → ((b : Loan) → IsLentAs b n out' → SameContent (λ c. cond (is_cell_of depth ts b.land c) (b.held c) (mid c)) after)
      → SameContent before after
  taken_back i mid after posted back c = back new_loan new_lent c
      ∙ cond_both (is_cell_of depth ts land c) (taken.held c) (mid c) (λ x. x ≡ before c) (λ inside. taken.holds c inside)
      (λ outside. posted c ∙ effect_outside depth ts i land before c outside)

  pub taken_out : without n out' ≡ out
  taken_out = ap (without n) taken.last ∙ without_last new_loan out taken.above
