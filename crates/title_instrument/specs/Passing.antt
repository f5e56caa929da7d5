-- How many units an instrument passes in an estate of one cell, of which the party that passes them holds g units.
use Rattle.std.specs.Prelude.{ℕ, Bool, true, false, ◌≡◌, ◌*◌, ◌-◌, ◌/◌, ◌%◌, cond, Option, Some, None, Result, Ok, Err, ltb, eqb}
use Rattle.title_share.specs.Rows.{whole_units}
use Rattle.title_instrument.specs.declared.parts.{Estate.{Estate}, Quantum.{Quantum, TheVariants.{Whole, Interest}}, Rule.{Rule}}
use Rattle.title_instrument.specs.declared.{parts.Rule.TheVariants.{ShortTitle, TooFine, OverReserved}, instrument.Deed.{Deed}}
use Rattle.title_instrument.specs.{declared.instrument.Instrument.{Instrument}, Estates.{names}, Parties.{reservation_of}}
use Rattle.title_instrument.specs.declared.instrument.Instrument.TheVariants as i

-- m units are the interest of a units of the whole in g units: their exact product
abbrev pub IsInterest : ℕ → ℕ → ℕ → Type 0
IsInterest a g m = m * whole_units ≡ a * g

-- m units are what a quantum names, of g units: a share of the whole, or of the g units
abbrev pub IsNamed : Quantum → ℕ → ℕ → Type 0
IsNamed (Whole a) g m = m ≡ a
IsNamed (Interest a) g m = IsInterest a g m

-- the units that a quantum names, computed; none where they are no whole number
abbrev pub units_named : Quantum → ℕ → Option ℕ
units_named (Whole a) g = Some a
units_named (Interest a) g = cond (eqb (a * g % whole_units) 0) (Some (a * g / whole_units)) None

-- the units that pass of those named, r of them being reserved, or the first rule that refuses
abbrev pub passed_of : Option ℕ → ℕ → ℕ → Result ℕ Rule
passed_of None r g = Err TooFine
passed_of (Some m) r g = cond (ltb g m) (Err ShortTitle) (cond (ltb m r) (Err OverReserved) (Ok (m - r)))

-- the units that pass of m named where the reservation yields first: what it leaves of them, if the grantor has that much
abbrev pub passed_yielding : ℕ → ℕ → ℕ → Result ℕ Rule
passed_yielding m r g = cond (ltb m r) (Err OverReserved) (cond (ltb g (m - r)) (Err ShortTitle) (Ok (m - r)))

-- the units that a grantor with some title passes: with warranty, the reservation of a share of the whole yields first
abbrev pub passed_by : (warranty : Bool) → Quantum → ℕ → ℕ → Result ℕ Rule
passed_by true (Whole a) r g = passed_yielding a r g
passed_by true (Interest a) r g = passed_of (units_named (Interest a) g) r g
passed_by false q r g = passed_of (units_named q g) r g

-- the units that a deed passes, r being reserved, or the first rule that refuses: a grantor that holds nothing has no title
abbrev pub passed : (warranty : Bool) → Quantum → ℕ → ℕ → Result ℕ Rule
passed warranty q r g = cond (eqb g 0) (Err ShortTitle) (passed_by warranty q r g)

-- the units of a reservation, 0 where there is none
abbrev pub units_or_none : Option ℕ → ℕ
units_or_none None = 0
units_or_none (Some r) = r

-- the units that a deed reserves in an estate
abbrev pub reserved : Deed ℕ → Estate → ℕ
reserved d e = units_or_none (reservation_of d e)

-- the units that an instrument passes in an estate: none where it doesn't name it, all by a release
abbrev pub passes : Instrument ℕ → Estate → ℕ → Result ℕ Rule
passes (i.Deed d) e g = cond (names d.estates e) (passed d.warranty d.quantum (reserved d e) g) (Ok 0)
passes (i.Release r) e g = Ok (cond (names r.estates e) g 0)
