-- Cases of a test on numbers, and parts of a test joined by `&&`.
use Rattle.std.proofs.{Common.{◌≡◌, ◌<◌, ◌≤◌, ℕ, Bool, true, false, refl, eqb, ltb}, lemmas.Bool.{eqb-true, eqb-false, ltb-true, ltb-false}}

-- by cases of a test `<`
pub case_ltb : (P : Bool → Type 0) (a b : ℕ) → (a < b → P true) → (b ≤ a → P false) → P (ltb a b)
case_ltb P a b below above = go (ltb a b) refl
  where
    go : (v : Bool) → ltb a b ≡ v → P v
    go true e = below (ltb-true a b e)
    go false e = above (ltb-false a b e)

-- by cases of a test of equality
pub case_eqb : (P : Bool → Type 0) (a b : ℕ) → (a ≡ b → P true) → ((a ≡ b → ⊥) → P false) → P (eqb a b)
case_eqb P a b same other = go (eqb a b) refl
  where
    go : (v : Bool) → eqb a b ≡ v → P v
    go true e = same (eqb-true a b e)
    go false e = other (eqb-false a b e)
