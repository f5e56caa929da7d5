-- An image's slot is found by its number.
use Rattle.std.proofs.Common.{◌≡◌, ◌≢◌, ◌∙◌, ap, sym, refl, subst, ℕ, zero, suc, ◌+◌, ◌<◌, ◌≤◌, arith, inl, inr}
use Rattle.std.proofs.Common.{List, [], ◌∷◌, ◌++◌, length, length-append, set, get_or, drop, Option, Some, None}
use Rattle.std.{specs.Prelude.{MatchOption}, proofs.lemmas.List.{length-set}}
use Rattle.title_tree_store.specs.{declared.lent.Lent.{Lent}, Slots.{filled, IsNumbered}, Keeping.{IsAbsent, IsTakenOut}}
use Rattle.title_land.specs.Laws.Members.{In}

pub filled_push : (xs : List (Option Lent)) (l : Lent) → filled (xs ++ Some l ∷ []) ≡ filled xs ++ l ∷ []
filled_push [] l = refl
filled_push (None ∷ xs) l = filled_push xs l
filled_push (Some x ∷ xs) l = ap (λ (z : List Lent). x ∷ z) (filled_push xs l)

pub numbered_push : (next : ℕ) (xs : List (Option Lent)) (l : Lent) → l.number ≡ next → IsNumbered next xs
    → IsNumbered (next + 1) (xs ++ Some l ∷ [])
numbered_push next [] l e k = (omega (arith, e), tt)
numbered_push next (None ∷ xs) l e k = numbered_push next xs l e k
numbered_push next (Some x ∷ xs) l e k = (omega (arith, length-append xs (Some l ∷ []), k.0), numbered_push next xs l e k.1)

pub numbered_empty : (next i : ℕ) (xs : List (Option Lent)) → IsNumbered next xs → IsNumbered next (set xs i None)
numbered_empty next i [] k = k
numbered_empty next zero (None ∷ xs) k = k
numbered_empty next zero (Some x ∷ xs) k = k.1
numbered_empty next (suc i) (None ∷ xs) k = numbered_empty next i xs k
numbered_empty next (suc i) (Some x ∷ xs) k = (ap (λ (n : ℕ). x.number + suc n) (length-set xs i None) ∙ k.0, numbered_empty next i xs k.1)

-- the numbers are below the next, and not so far below it as there are slots
pub numbered_below : (next : ℕ) (xs : List (Option Lent)) (l : Lent) → IsNumbered next xs → In l (filled xs)
    → (l.number < next) × (next ≤ l.number + length xs)
numbered_below next [] l k i = absurd i
numbered_below next (None ∷ xs) l k i =
    let m = numbered_below next xs l k i in (m.0, omega (arith, m.1))
numbered_below next (Some x ∷ xs) l k i = elim i [
  | inl e ↦ (let f = ap (λ (z : Lent). z.number) e in (omega (arith, f, k.0), omega (arith, f, k.0)))
  | inr j ↦ (let m = numbered_below next xs l k.1 j in (m.0, omega (arith, m.1)))
]

pub absent_above : (next n : ℕ) (xs : List (Option Lent)) → IsNumbered next xs → next ≤ n → IsAbsent n (filled xs)
absent_above next n xs k h l i e = omega (arith, h, e, (numbered_below next xs l k i).0)

pub absent_below : (next n : ℕ) (xs : List (Option Lent)) → IsNumbered next xs → n + length xs < next → IsAbsent n (filled xs)
absent_below next n xs k h l i e = omega (arith, h, e, (numbered_below next xs l k i).1)

after_one : (n : ℕ) (l : Lent) (old new : List Lent) (o : Option Lent) → l.number ≢ n
    → MatchOption o (IsAbsent n old) (λ x. IsTakenOut n x old new)
    → MatchOption o (IsAbsent n (l ∷ old)) (λ x. IsTakenOut n x (l ∷ old) (l ∷ new))
after_one n l old new None h out = λ x i e. elim i [ inl same ↦ h (ap (λ (z : Lent). z.number) (sym same) ∙ e) | inr j ↦ out x j e ]
after_one n l old new (Some x) h out = record {
  number_is = out.number_is;
  before = l ∷ out.before;
  later = out.later;
  old_is = ap (λ (z : List Lent). l ∷ z) out.old_is;
  new_is = ap (λ (z : List Lent). l ∷ z) out.new_is;
}

-- what the slot of a number has is the image of that number
pub taken_at : (next n i : ℕ) (xs : List (Option Lent)) (o : Option Lent) → i < length xs → n + length xs ≡ next + i → IsNumbered next xs
    → o ≡ get_or xs i o → MatchOption o (IsAbsent n (filled xs)) (λ l. IsTakenOut n l (filled xs) (filled (set xs i None)))
taken_at next n i [] o h f k e = absurd (omega (arith, h))
taken_at next n zero (None ∷ xs) o h f k e =
    subst (λ (z : Option Lent). MatchOption z (IsAbsent n (filled xs)) (λ l. IsTakenOut n l (filled xs) (filled xs))) (sym e)
    (λ l i same. omega (arith, f, same, (numbered_below next xs l k i).1))
taken_at next n zero (Some x ∷ xs) o h f k e =
    subst (λ (z : Option Lent). MatchOption z (IsAbsent n (x ∷ filled xs)) (λ l. IsTakenOut n l (x ∷ filled xs) (filled xs))) (sym e)
    record { number_is = omega (arith, f, k.0); before = []; later = filled xs; old_is = refl; new_is = refl }
taken_at next n (suc i) (None ∷ xs) o h f k e = taken_at next n i xs o (omega (arith, h)) (omega (arith, f)) k e
taken_at next n (suc i) (Some x ∷ xs) o h f k e = after_one n x (filled xs) (filled (set xs i None)) o (λ same. omega (arith, f, k.0, same))
    (taken_at next n i xs o (omega (arith, h)) (omega (arith, f)) k.1 e)

-- without an empty slot at the front
pub trimmed : (xs ys : List (Option Lent)) (o : Option Lent) → o ≡ None → o ≡ get_or xs 0 o → ys ≡ drop 1 xs
    → (filled ys ≡ filled xs) × ((next : ℕ) → IsNumbered next xs → IsNumbered next ys)
trimmed [] ys o e f g = (ap filled g, λ next k. subst (IsNumbered next) (sym g) k)
trimmed (None ∷ xs) ys o e f g = (ap filled g, λ next k. subst (IsNumbered next) (sym g) k)
trimmed (Some x ∷ xs) ys o e f g = let clash : None ≡ Some x = sym e ∙ f in absurd cc
