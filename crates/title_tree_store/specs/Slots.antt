-- Slots of images that are out: each lies so far before the end as its number is below the next.
use Rattle.std.{proofs.Math.Nat.{ℕ_set}, specs.Prelude.{◌≡◌, ℕ, suc, ◌+◌, List, [], ◌∷◌, length, Option, Some, None}}
use Rattle.title_tree_store.specs.declared.lent.Lent.{Lent}

-- the images that slots have
abbrev pub filled : List (Option Lent) → List Lent
filled [] = []
filled (None ∷ slots) = filled slots
filled (Some l ∷ slots) = l ∷ filled slots

-- an image's number and the slots from its own on come to the next number
abbrev pub IsNumbered : ℕ → List (Option Lent) → Type 0
IsNumbered next [] = Unit {0}
IsNumbered next (None ∷ slots) = IsNumbered next slots
IsNumbered next (Some l ∷ slots) = (l.number + suc (length slots) ≡ next) × IsNumbered next slots

-- it holds in one way
pub numbered_prop : (next : ℕ) (slots : List (Option Lent)) → IsProp (IsNumbered next slots)
numbered_prop next [] = hlevel ℕ_set
numbered_prop next (None ∷ slots) = numbered_prop next slots
numbered_prop next (Some l ∷ slots) = hlevel (ℕ_set, numbered_prop next slots)
