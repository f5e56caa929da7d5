-- Reading from left to right with one letter of lookahead: a value and what is left, or where it got stuck.
use Rattle.std.specs.Prelude.{ℕ, zero, suc, Bool, false, ◌==◌, List, [], ◌∷◌, length, if◌then◌else◌}
use Rattle.title_grammar.specs.Language.{member}

pub data Read (V : Type 0) : Type 0 where
  Got : V → List ℕ → Read V
  Stuck : List ℕ → Read V

abbrev pub and_then : {U V : Type 0} → Read U → (U → List ℕ → Read V) → Read V
and_then (Got u r) f = f u r
and_then (Stuck r) f = Stuck r

abbrev pub starts : List ℕ → List ℕ → Bool
starts set [] = false
starts set (c ∷ s) = member c set

abbrev pub gives_at : {V : Type 0} → V → List ℕ → List ℕ → Read V
gives_at v [] s = Got v s
gives_at v (c ∷ w) [] = Stuck []
gives_at v (c ∷ w) (d ∷ s) = if d == c then gives_at v w s else Stuck (d ∷ s)

abbrev pub one_of_at : List ℕ → List ℕ → Read ℕ
one_of_at set [] = Stuck []
one_of_at set (c ∷ s) = if member c set then Got c s else Stuck (c ∷ s)

abbrev pub then_at : {U V W : Type 0} → (U → V → W) → (List ℕ → Read U) → (List ℕ → Read V) → List ℕ → Read W
then_at f a b s = and_then (a s) (λ u r. and_then (b r) (λ v t. Got (f u v) t))

abbrev pub or_at : {V : Type 0} → List ℕ → (List ℕ → Read V) → (List ℕ → Read V) → List ℕ → Read V
or_at first a b s = if starts first s then a s else b s

-- n is at least the length of s
abbrev pub many_from : {V : Type 0} → List ℕ → (List ℕ → Read V) → ℕ → List ℕ → Read (List V)
many_from first a zero s = Got [] s
many_from first a (suc n) s = if starts first s then and_then (a s) (λ v r. and_then (many_from first a n r) (λ vs t. Got (v ∷ vs) t)) else
    Got [] s

abbrev pub many_at : {V : Type 0} → List ℕ → (List ℕ → Read V) → List ℕ → Read (List V)
many_at first a s = many_from first a (length s) s

-- ---- readers made of these

abbrev pub word_at : List ℕ → List ℕ → Read (Unit {0})
word_at w s = gives_at tt w s

-- b behind a, with b's value
abbrev pub behind : {U V : Type 0} → (List ℕ → Read U) → (List ℕ → Read V) → List ℕ → Read V
behind a b s = then_at (λ u v. v) a b s

-- a, with the value v
abbrev pub as_at : {V : Type 0} → V → (List ℕ → Read (Unit {0})) → List ℕ → Read V
as_at v a s = then_at (λ u w. u) (λ t. gives_at v [] t) a s

-- one of two words, which begin with different letters
abbrev pub choice : {V : Type 0} → V → V → List ℕ → List ℕ → List ℕ → Read V
choice u v w x s = or_at w (gives_at u w) (gives_at v x) s

-- a, or nothing where the next letter isn't in first
abbrev pub maybe_at : List ℕ → (List ℕ → Read (Unit {0})) → List ℕ → Read (Unit {0})
maybe_at first a s = or_at first a (word_at []) s
