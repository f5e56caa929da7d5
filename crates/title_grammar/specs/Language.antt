-- Grammars: a language says which texts spell which values. A text is a list of characters.
use Rattle.std.specs.{Prelude.{◌≡◌, ℕ, Bool, true, ◌==◌, List, [], ◌∷◌, ◌++◌, ◌⊎◌}, List.{list_any}}

abbrev pub Language : Type 0 → Type 1
Language V = V → List ℕ → Type 0

abbrev pub member : ℕ → List ℕ → Bool
member c set = list_any (λ d. c == d) set

-- the text w, which spells v
abbrev pub Gives : {V : Type 0} → V → List ℕ → Language V
Gives v w u s = (u ≡ v) × (s ≡ w)

-- one of these characters, which spells itself
abbrev pub OneOf : List ℕ → Language ℕ
OneOf set c s = (member c set ≡ true) × (s ≡ c ∷ [])

-- a text of A and then one of B, which spell f of both values
abbrev pub Then : {U V W : Type 0} → (U → V → W) → Language U → Language V → Language W
Then {U} {V} f A B w s = (u : U) × (v : V) × (p : List ℕ) × (q : List ℕ) × (w ≡ f u v) × (s ≡ p ++ q) × A u p × B v q

-- a text of A or of B
abbrev pub Or : {V : Type 0} → Language V → Language V → Language V
Or A B v s = A v s ⊎ B v s

-- any number of texts of A
abbrev pub Many : {V : Type 0} → Language V → Language (List V)
Many A [] s = s ≡ []
Many A (v ∷ vs) s = (p : List ℕ) × (q : List ℕ) × (s ≡ p ++ q) × A v p × Many A vs q

-- ---- notation: A <|> B is a text of either; A *> B one of A and then one of B, with B's value

infixr 5 ◌<|>◌
abbrev pub ◌<|>◌ : {V : Type 0} → Language V → Language V → Language V
A <|> B = Or A B

infixr 6 ◌*>◌
abbrev pub ◌*>◌ : {U V : Type 0} → Language U → Language V → Language V
A *> B = Then (λ u v. v) A B

-- a text of no value
abbrev pub Word : List ℕ → Language (Unit {0})
Word w = Gives tt w

-- a text of A or nothing
abbrev pub Maybe : Language (Unit {0}) → Language (Unit {0})
Maybe A = A <|> Word []

-- a value before others
abbrev pub cons : {V : Type 0} → V → List V → List V
cons v vs = v ∷ vs

-- ---- beginnings of texts, and the index of a fault

-- p is the beginning of some text of A
abbrev pub Begins : {V : Type 0} → Language V → List ℕ → Type 0
Begins {V} A p = (t : List ℕ) × (v : V) × A v (p ++ t)

-- s spells no value
abbrev pub NoText : {V : Type 0} → Language V → List ℕ → Type 0
NoText {V} A s = (v : V) → A v s → ⊥

-- The text p ++ r is not in A: p is the beginning of some text of A, and no text of A has the first character of r
-- after p; or r is empty, and the text ends too early.
abbrev pub FaultAt : {V : Type 0} → Language V → List ℕ → List ℕ → Type 0
FaultAt A p [] = Begins A p × NoText A p
FaultAt A p (c ∷ r) = Begins A p × (Begins A (p ++ c ∷ []) → ⊥)
