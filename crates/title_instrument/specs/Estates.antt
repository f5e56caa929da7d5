-- The estates of a cell, and which of them an instrument names.
use Rattle.std.specs.Prelude.{ℕ, Bool, cond, not, ◌||◌, List, [], ◌∷◌, ◌++◌}
use Rattle.title_instrument.specs.declared.parts.{Estate.{Estate, TheVariants.{S, O, M}}, Estates.{Estates}}

-- an estate is named
abbrev pub names : Estates → Estate → Bool
names e S = e.s
names e O = e.o
names e M = e.m

-- no estate is named
abbrev pub names_none : Estates → Bool
names_none e = not (e.s || e.o || e.m)

-- an estate's index in the order S, O, M
abbrev pub estate_index : Estate → ℕ
estate_index S = 0
estate_index O = 1
estate_index M = 2

-- the letter of an estate
abbrev pub letter_of : Estate → ℕ
letter_of S = 83
letter_of O = 79
letter_of M = 77

-- the text of an estate: its letter
abbrev pub estate_text : Estate → List ℕ
estate_text e = letter_of e ∷ []

-- an estate's letter where it is named
abbrev pub letter_if : Bool → Estate → List ℕ
letter_if named e = cond named (estate_text e) []

-- the text of estates: the letters of those named, in order
abbrev pub estates_text : Estates → List ℕ
estates_text e = letter_if e.s S ++ letter_if e.o O ++ letter_if e.m M
