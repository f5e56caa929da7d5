-- Names and the numbers of their parties.
use Rattle.std.proofs.Common.{◌≡◌, ◌∙◌, ℕ, zero, suc, ◌+◌, ◌<◌, Bool, true, false, not, List, [], ◌∷◌, length, get_or, refl, sym, arith}
use Rattle.std.{proofs.Common.{inl, inr, Some, None, nat_lt}, specs.{List.{list_all, list_any, position_or_len}, Str.{bytes_eq}}}
use Rattle.std.proofs.lemmas.{Bool.{and_parts, cond-true, cases_Bool, lt-ltb, or_left, or_right}, Slice.Eq.{bytes_eq-Decides}}
use Rattle.title_plan.specs.{Fields.{is_name}, Plans.{number_of}}
use Rattle.title_spelling.specs.{Posts.{name_of}, Rows.{are_names, each_once}}

-- what holds of each element holds of one
all_at : (p : List ℕ → Bool) (xs : List (List ℕ)) (i : ℕ) → list_all p xs ≡ true → i < length xs → p (get_or xs i []) ≡ true
all_at p [] i h lt = absurd (omega arith)
all_at p (x ∷ xs) zero h lt = (and_parts (p x) (list_all p xs) h).0
all_at p (x ∷ xs) (suc i) h lt = all_at p xs i (and_parts (p x) (list_all p xs) h).1 (omega arith)

-- an element that passes is one of some
any_at : (p : List ℕ → Bool) (xs : List (List ℕ)) (i : ℕ) → i < length xs → p (get_or xs i []) ≡ true → list_any p xs ≡ true
any_at p [] i lt h = absurd (omega arith)
any_at p (x ∷ xs) zero lt h = or_left (p x) (list_any p xs) h
any_at p (x ∷ xs) (suc i) lt h = or_right (p x) (list_any p xs) (any_at p xs i (omega arith) h)

same_bytes : (text : List ℕ) → bytes_eq text text ≡ true
same_bytes text = (bytes_eq-Decides text text).1 refl

not_true : (b : Bool) → not b ≡ true → b ≡ false
not_true true h = cc h
not_true false h = refl

-- where names differ, the first index of one is its own
first_index : (names : List (List ℕ)) (i : ℕ) → each_once names ≡ true → i < length names
    → position_or_len (bytes_eq (get_or names i [])) names ≡ i
first_index [] i once lt = absurd (omega arith)
first_index (x ∷ names) zero once lt = rw (same_bytes x) refl
first_index (x ∷ names) (suc i) once lt =
    let parts = and_parts (not (list_any (bytes_eq x) names)) (each_once names) once in
    elim (cases_Bool (bytes_eq (get_or names i []) x)) [
      | inl e ↦
          let same = (bytes_eq-Decides (get_or names i []) x).0 e in
          let there = any_at (bytes_eq x) names i (omega arith) (rw same (same_bytes x)) in
          let none = not_true (list_any (bytes_eq x) names) parts.0 in
          absurd (cc (sym there ∙ none))
      | inr e ↦
          let next : 1 + i ≡ suc i = omega arith in
          rw (e, first_index names i parts.1 (omega arith)) next
    ]

module _ (names : List (List ℕ)) (are : are_names names ≡ true) (party : ℕ) (within : party < length names) where
  -- a party has a name
  pub named : is_name (name_of names party) ≡ true
  named = all_at is_name names party (and_parts (list_all is_name names) (each_once names) are).0 within

  -- and its name has its number
  pub numbered_as : number_of names (name_of names party) ≡ Some party
  numbered_as =
      let index = first_index names party (and_parts (list_all is_name names) (each_once names) are).1 within in
      rw index (cond-true (nat_lt party (length names)) (Some party) None (lt-ltb party (length names) within))
