-- The test of two divisions is their equality.
use Rattle.std.proofs.Common.{◌≡◌, ℕ, Bool, true, false, ◌&&◌, ◌==◌, ◌↔◌, IsTrue, List, [], ◌∷◌, refl, sym, ap, ◌∙◌}
use Rattle.std.proofs.lemmas.Bool.{and_from, and_parts, eqb-true, eq-eqb}
use Rattle.title_share.specs.Division.{Division, rows_of, same_rows}
use Rattle.title_tree.specs.Plots.{same_entries, same_division}

entries_is : (xs ys : List (ℕ × ℕ)) → same_entries xs ys ≡ true → xs ≡ ys
entries_is [] [] h = refl
entries_is [] (y ∷ ys) h = absurd cc
entries_is (x ∷ xs) [] h = absurd cc
entries_is (x ∷ xs) (y ∷ ys) h =
    let parts = and_parts (x.0 == y.0 && x.1 == y.1) (same_entries xs ys) h in
    let numbers = and_parts (x.0 == y.0) (x.1 == y.1) parts.0 in
    let a = eqb-true x.0 y.0 numbers.0 in
    let b = eqb-true x.1 y.1 numbers.1 in
    let rest = entries_is xs ys parts.1 in
    λ i. (a i, b i) ∷ rest i

entries_self : (xs : List (ℕ × ℕ)) → same_entries xs xs ≡ true
entries_self [] = refl
entries_self (x ∷ xs) = and_from _ _ (and_from _ _ (eq-eqb x.0 x.0 refl) (eq-eqb x.1 x.1 refl)) (entries_self xs)

pub same_is : (d e : Division) → same_division d e ≡ true → d ≡ e
same_is d e h = same_rows d e (entries_is (rows_of d) (rows_of e) h)

pub same_self : (d : Division) → same_division d d ≡ true
same_self d = entries_self (rows_of d)

pub same_from : (d e : Division) → d ≡ e → same_division d e ≡ true
same_from d e h = sym (ap (λ (x : Division). same_division d x) h) ∙ same_self d

told : (b s : Bool) → (IsTrue b → s ≡ true) → (s ≡ true → IsTrue b) → b ≡ s
told true s f g = sym (f refl)
told false true f g = g refl
told false false f g = refl

-- a test that is equality is this one
pub same_test : (d e : Division) (b : Bool) → IsTrue b ↔ (d ≡ e) → b ≡ same_division d e
same_test d e b h = told b (same_division d e) (λ t. same_from d e (h.0 t)) (λ s. h.1 (same_is d e s))
