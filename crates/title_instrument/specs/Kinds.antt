-- The kinds of instruments, and their words.
use Rattle.std.specs.{Prelude.{ℕ, Bool, true, false, List, [], ◌∷◌, Option, codes}, List.{find}, Str.{bytes_eq}}
use Rattle.title_instrument.specs.declared.{kind.Kind.{Kind}, instrument.Instrument.{Instrument}}
use Rattle.title_instrument.specs.declared.kind.Kind.TheVariants as kind
use Rattle.title_instrument.specs.declared.instrument.Instrument.TheVariants as i

-- the word of a kind, as scripts and reports write it
abbrev pub kind_word : Kind → List ℕ
kind_word kind.Deed = codes "deed"
kind_word kind.Warranty = codes "warranty"
kind_word kind.Release = codes "release"

-- the kind whose word a text is, where it is of one
abbrev pub kind_in : List ℕ → Option Kind
kind_in word = find (λ k. bytes_eq word (kind_word k)) (kind.Deed ∷ kind.Warranty ∷ kind.Release ∷ [])

-- the kind of a deed, plain or with warranty
abbrev pub deed_kind : (warranty : Bool) → Kind
deed_kind false = kind.Deed
deed_kind true = kind.Warranty

-- the kind of an instrument
abbrev pub kind_of : {P : Type 0} → Instrument P → Kind
kind_of (i.Deed d) = deed_kind d.warranty
kind_of (i.Release r) = kind.Release
