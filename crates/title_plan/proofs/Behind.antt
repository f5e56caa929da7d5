-- Which names stand behind the first of those that stood, by their numbers.
use Rattle.std.proofs.Common.{◌≡◌, ◌∙◌, ◌+◌, ◌&&◌, cond, refl, ℕ, zero, suc, List, [], ◌∷◌, Bool, true, false, Some, None, map}
use Rattle.std.{proofs.Common.{drop, take, length, nat_lt, arith, inl, inr}, specs.{Str.{bytes_eq}, String.{string_bytes, string_eq}}}
use Rattle.std.specs.{List.{AllByRecursion, IsDistinct, list_any, position, position_or_len}, declared.string.String.{String}}
use Rattle.std.proofs.lemmas.{Bool.{and_right, cases_Bool, or_from, or_parts, Decides.{nat_tests}}, Slice.Eq.{bytes_eq-Decides}}

-- the first is found nowhere behind it
abbrev pub IsFirstAlone : (List ℕ → Bool) → List (List ℕ) → Type 0
IsFirstAlone test [] = Unit {0}
IsFirstAlone test (x ∷ xs) = test x ≡ true → list_any test xs ≡ false

no_other : {Y : Type 0} (name : List ℕ) (keys : List (String Y)) (ks : List ℕ) → bytes_eq name ks ≡ true
    → AllByRecursion (λ (k : String Y). bytes_eq ks (string_bytes k) ≡ false) keys
    → list_any (bytes_eq name) (map string_bytes keys) ≡ false
no_other name [] ks same apart = refl
no_other name (k ∷ keys) ks same apart =
    let is : name ≡ ks = (bytes_eq-Decides name ks).0 same in
    or_from _ _ (rw is apart.0) (no_other name keys ks same apart.1)

pub first_alone : {Y : Type 0} (name : List ℕ) (keys : List (String Y)) → IsDistinct string_eq keys
    → IsFirstAlone (bytes_eq name) (map string_bytes keys)
unfolding IsDistinct
first_alone name [] apart = tt
first_alone name (k ∷ keys) apart = λ same. no_other name keys (string_bytes k) same apart.0

any_first : (test : List ℕ → Bool) (m : ℕ) (xs : List (List ℕ))
    → list_any test (take m xs) ≡ (nat_lt (position_or_len test xs) m && nat_lt (position_or_len test xs) (length xs))
any_first test zero xs = grind (arith, nat_tests)
any_first test (suc m) [] = grind (arith, nat_tests)
any_first test (suc m) (x ∷ xs) = elim (cases_Bool (test x)) [
  | inl is ↦ rw is (grind (arith, nat_tests))
  | inr other ↦ rw other (any_first test m xs ∙ grind (arith, nat_tests))
]

none_first : (test : List ℕ → Bool) (m : ℕ) (xs : List (List ℕ)) → list_any test xs ≡ false → list_any test (take m xs) ≡ false
none_first test zero xs none = refl
none_first test (suc m) [] none = refl
none_first test (suc m) (x ∷ xs) none =
    let parts = or_parts (test x) (list_any test xs) none in or_from _ _ parts.0 (none_first test m xs parts.1)

none_behind : (test : List ℕ → Bool) (xs : List (List ℕ)) → list_any test xs ≡ false → list_any test (drop 1 xs) ≡ false
none_behind test [] none = refl
none_behind test (x ∷ xs) none = (or_parts (test x) (list_any test xs) none).1

some_if : (b : Bool) (p i : ℕ) → cond b (Some p) None ≡ Some i → (b ≡ true) × (p ≡ i)
some_if true p i e = (refl, cc e)
some_if false p i e = absurd (cc e)

none_if : (b : Bool) (p : ℕ) → cond b (Some p) None ≡ None → b ≡ false
none_if true p e = absurd (cc e)
none_if false p e = refl

-- a name that has a number is behind the first where its number is above 0, and stood where it is among so many
pub at_number : (test : List ℕ → Bool) (stood i : ℕ) (names : List (List ℕ)) → IsFirstAlone test names → position test names ≡ Some i
    → list_any test (drop 1 (take stood names)) ≡ (nat_lt 0 i && nat_lt i stood)
at_number test zero i names alone e = grind (arith, nat_tests)
at_number test (suc m) i [] alone e = absurd (cc e)
at_number test (suc m) i (x ∷ xs) alone e =
    let found = some_if _ _ i e in
    elim (cases_Bool (test x)) [
      | inl is ↦
          let first : 0 ≡ i = rw is at found.1 in
          none_first test m xs (alone is) ∙ grind (arith, nat_tests, first)
      | inr other ↦
          let next : 1 + position_or_len test xs ≡ i = rw other at found.1 in
          let within : nat_lt (1 + position_or_len test xs) (suc (length xs)) ≡ true = rw other at found.0 in
          any_first test m xs ∙ grind (arith, nat_tests, next, within)
    ]

-- a name that has none isn't there
pub at_none : (test : List ℕ → Bool) (stood : ℕ) (names : List (List ℕ)) → position test names ≡ None
    → list_any test (drop 1 (take stood names)) ≡ false
at_none test stood names e =
    none_behind test (take stood names) (any_first test stood names ∙ and_right _ _ (none_if _ _ e))
