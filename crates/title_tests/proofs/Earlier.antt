-- An image goes back before a later one that shares no cell with it.
use Rattle.std.proofs.Common.{◌≡◌, ◌≢◌, ℕ, ◌<◌, false, cond, List, [], ◌∷◌, ◌++◌, ap, ◌∙◌, sym, subst, refl, inl, inr, arith}
use Rattle.title_land.specs.declared.{survey.Township.{Township}, tract.Land.{Land}}
use Rattle.title_land.specs.Lands.{meets}
use Rattle.title_store.specs.{Plants.{Plant}, Loans.{Loan, IsAmong, IsOut, IsLast, IsTaken, without}}
use Rattle.title_store.specs.Laws.Taken.{case_eqb, new_loan, among_now, is_new, image_out, taken_out}

among_more : (b x : Loan) (out : List Loan) → IsAmong b out → IsAmong b (out ++ x ∷ [])
among_more b x [] at = absurd at
among_more b x (y ∷ out) at = elim at [ inl same ↦ inl same | inr later ↦ inr (among_more b x out later) ]

-- a later number stays last without an earlier one
without_push : (n : ℕ) (x : Loan) (out : List Loan) → n ≢ x.number → without n (out ++ x ∷ []) ≡ without n out ++ x ∷ []
without_push n x [] ne = case_eqb (λ b. cond b [] (x ∷ []) ≡ x ∷ []) n x.number (λ is. absurd (ne is)) (λ _. refl)
without_push n x (y ∷ out) ne = case_eqb
    (λ b. cond b (without n (out ++ x ∷ [])) (y ∷ without n (out ++ x ∷ [])) ≡ cond b (without n out) (y ∷ without n out) ++ x ∷ [])
    n y.number (λ _. without_push n x out ne) (λ _. ap (λ more. y ∷ more) (without_push n x out ne))

module _ {m n : ℕ} {ts us : List Township} {land other : Land} {p q : Plant} {old mid new : List Loan}
    (earlier : IsTaken m ts land p old mid) (later : IsTaken n us other q mid new) where
  -- the earlier is out beside the later
  among_both : (b : Loan) → IsAmong b mid → IsAmong b new
  among_both b at = subst (IsAmong b) (sym later.last) (among_more b (new_loan later) mid at)

  below : m < n
  below = let o = image_out earlier in subst (λ k. k < n) o.1.1 (later.above o.0 o.1.0)

  pub earlier_out : IsOut m new
  earlier_out = let o = image_out earlier in (o.0, (among_both o.0 o.1.0, o.1.1))

  -- and may go back, where they share no cell
  pub earlier_last : meets land other ≡ false → IsLast m new
  earlier_last apart b x lent at higher = elim (among_now later x at) [
    | inl before ↦ absurd (elim (among_now earlier x before) [
      | inl older ↦ (let low : x.number < m = earlier.above x older in omega arith)
      | inr same ↦ (let is : x.number ≡ m = ap (λ z. z.number) same in omega arith)
    ])
    | inr last ↦ elim (among_now later b lent.0) [
      | inl before ↦ ap (λ z. meets z x.land) (ap (λ z. z.land) (is_new earlier b (before, lent.1)))
          ∙ ap (λ z. meets land z) (ap (λ z. z.land) last) ∙ apart
      | inr same ↦ absurd (let is : b.number ≡ n = ap (λ z. z.number) same in let was : b.number ≡ m = lent.1 in
          let low : m < n = below in omega arith)
    ]
  ]

  -- then the later stands as if the earlier had never been
  pub without_earlier : IsTaken n us other q old (without m new)
  without_earlier = record {
    held = later.held;
    holds = later.holds;
    above = λ x at. later.above x (subst (IsAmong x) (sym earlier.last) (among_more x (new_loan earlier) old at));
    last = ap (without m) later.last
        ∙ without_push m (new_loan later) mid (λ is. let low : m < n = below in let same : m ≡ n = is in omega arith)
        ∙ ap (λ out. out ++ new_loan later ∷ []) (taken_out earlier);
  }
