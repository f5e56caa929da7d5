-- Rows that only look, and the first that doesn't.
use Rattle.std.proofs.Common.{◌≡◌, ◌∙◌, ◌+◌, ◌∷◌, [], refl, ap, ℕ, zero, suc, Bool, true, false, List, Some, None, cond, take, arith}
use Rattle.title_lasting.specs.LookRows.{first_other, is_look}

-- ---- rows one after another

-- where none is left, there is no other
pub none_left : (n k : ℕ) (left : List (List (List ℕ))) → left ≡ [] → first_other n (take k left) ≡ None
none_left n zero left e = refl
none_left n (suc k) left e = rw e refl

-- where none is looked at any more, neither
pub none_taken : (n k : ℕ) (left : List (List (List ℕ))) → k ≡ 0 → first_other n (take k left) ≡ None
none_taken n zero left e = refl
none_taken n (suc k) left e = absurd (omega arith)

-- a row is the first other, or it only looks and the first other is among the rest
one_more : (n k : ℕ) (left more : List (List (List ℕ))) (fields : List (List ℕ)) → left ≡ fields ∷ more
    → first_other n (take (suc k) left) ≡ cond (is_look fields) (first_other (n + 1) (take k more)) (Some n)
one_more n k left more fields e = rw e refl

pub looks_on : (n k rest : ℕ) (left more : List (List (List ℕ))) (fields : List (List ℕ)) → left ≡ fields ∷ more → k ≡ suc rest
    → is_look fields ≡ true → first_other n (take k left) ≡ first_other (n + 1) (take rest more)
looks_on n k rest left more fields e size look =
    ap (λ (m : ℕ). first_other n (take m left)) size ∙ one_more n rest left more fields e
    ∙ ap (λ (b : Bool). cond b (first_other (n + 1) (take rest more)) (Some n)) look

pub is_other : (n k rest : ℕ) (left more : List (List (List ℕ))) (fields : List (List ℕ)) → left ≡ fields ∷ more → k ≡ suc rest
    → is_look fields ≡ false → first_other n (take k left) ≡ Some n
is_other n k rest left more fields e size look =
    ap (λ (m : ℕ). first_other n (take m left)) size ∙ one_more n rest left more fields e
    ∙ ap (λ (b : Bool). cond b (first_other (n + 1) (take rest more)) (Some n)) look
