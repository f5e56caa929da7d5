-- Laws of the images that are out.
use Rattle.std.proofs.Common.{◌≡◌, ℕ, Bool, true, false, cond, eqb, List, [], ◌∷◌, ◌++◌, inl, inr, ◌⊎◌}
use Rattle.title_store.specs.Loans.{Loan, IsAmong, without}

pub among_push : (b : Loan) (out : List Loan) (last : Loan) → IsAmong b (out ++ last ∷ []) → IsAmong b out ⊎ (b ≡ last)
among_push b [] last h = elim h [ inl same ↦ inr same | inr never ↦ absurd never ]
among_push b (x ∷ xs) last h = elim h [
  | inl same ↦ inl (inl same)
  | inr later ↦
      elim (among_push b xs last later) [ inl there ↦ inl (inr there) | inr new ↦ inr new ]
]

-- what is left was there
pub among_without : (b : Loan) (n : ℕ) (out : List Loan) → IsAmong b (without n out) → IsAmong b out
among_without b n [] h = h
among_without b n (x ∷ xs) h = go (eqb n x.number) (among_without b n xs) h
  where
    go : (t : Bool) → (IsAmong b (without n xs) → IsAmong b xs) → IsAmong b (cond t (without n xs) (x ∷ without n xs))
        → (b ≡ x) ⊎ IsAmong b xs
    go true rest h = inr (rest h)
    go false rest h = elim h [ inl same ↦ inl same | inr later ↦ inr (rest later) ]
