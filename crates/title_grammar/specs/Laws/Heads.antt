-- What a text begins with.
use Rattle.std.proofs.Common.{◌≡◌, ℕ, Bool, true, false, List, [], ◌∷◌, ◌++◌, refl, ap}
use Rattle.title_grammar.specs.{Language.{member}, Reading.{starts}}

-- both are empty, or both have the same first character
abbrev pub SameHead : List ℕ → List ℕ → Type 0
SameHead [] [] = Unit {0}
SameHead [] (d ∷ w) = ⊥
SameHead (c ∷ r) [] = ⊥
SameHead (c ∷ r) (d ∷ w) = c ≡ d

pub SameHead-refl : (r : List ℕ) → SameHead r r
SameHead-refl [] = tt
SameHead-refl (c ∷ r) = refl

pub SameHead-front : (p r w : List ℕ) → SameHead r w → SameHead (p ++ r) (p ++ w)
SameHead-front [] r w h = h
SameHead-front (c ∷ p) r w h = refl

pub SameHead-starts : (set r w : List ℕ) → SameHead r w → starts set r ≡ starts set w
SameHead-starts set [] [] h = refl
SameHead-starts set [] (d ∷ w) h = absurd h
SameHead-starts set (c ∷ r) [] h = absurd h
SameHead-starts set (c ∷ r) (d ∷ w) h = ap (λ x. member x set) h

abbrev pub disjoint_one : Bool → Bool → Bool
disjoint_one true rest = false
disjoint_one false rest = rest

abbrev pub disjoint : List ℕ → List ℕ → Bool
disjoint [] ys = true
disjoint (c ∷ xs) ys = disjoint_one (member c ys) (disjoint xs ys)
