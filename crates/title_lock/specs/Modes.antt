-- Modes of locks: which stand beside each other, and their least upper bounds (Gray, Lorie, Putzolu, Traiger,
-- Granularity of Locks and Degrees of Consistency in a Shared Data Base, 1976).
use Rattle.std.specs.Prelude.{◌≡◌, Bool, true, false, ◌&&◌, Option, Some, None}
use Rattle.title_lock.specs.declared.modes.Mode.{Mode, TheVariants.{Is, Ix, S, Six, X}}

-- one row of a table, from IS to X
abbrev pub in_row : {V : Type 0} → V → V → V → V → V → Mode → V
in_row a b c d e Is = a
in_row a b c d e Ix = b
in_row a b c d e S = c
in_row a b c d e Six = d
in_row a b c d e X = e

-- two examiners may hold these modes of one node
abbrev pub compat : Mode → Mode → Bool
compat Is = in_row true true true true false
compat Ix = in_row true true false false false
compat S = in_row true false true false false
compat Six = in_row true false false false false
compat X = in_row false false false false false

-- the least mode that is as strong as both: no lock lies below IS, IS below IX and S, both below SIX, and SIX below X
abbrev pub sup : Mode → Mode → Mode
sup Is = in_row Is Ix S Six X
sup Ix = in_row Ix Ix Six Six X
sup S = in_row S Six S Six X
sup Six = in_row Six Six Six Six X
sup X = in_row X X X X X

-- the least upper bound where there may be no lock
abbrev pub bound : Option Mode → Option Mode → Option Mode
bound None b = b
bound (Some a) None = Some a
bound (Some a) (Some b) = Some (sup a b)

-- what two examiners have at one node may stand side by side; no lock stands beside everything
abbrev pub allows : Option Mode → Option Mode → Bool
allows None b = true
allows (Some a) None = true
allows (Some a) (Some b) = compat a b

-- what may stand beside the bound of two modes is what may stand beside both
abbrev pub BoundStandsBeside : Type 0
BoundStandsBeside = (a b c : Mode) → compat (sup a b) c ≡ (compat a c && compat b c)

-- what an access that asks for a mode asks of each node above: IX where it may post below, else IS
abbrev pub intention : Mode → Mode
intention = in_row Is Ix Is Ix Ix

-- the first mode is as strong as the second
abbrev pub is_as_strong : Mode → Mode → Bool
is_as_strong Is = in_row true false false false false
is_as_strong Ix = in_row true true false false false
is_as_strong S = in_row true false true false false
is_as_strong Six = in_row true true true true false
is_as_strong X = in_row true true true true true

-- what is held is as strong as a mode
abbrev pub is_enough : Option Mode → Mode → Bool
is_enough None m = false
is_enough (Some a) m = is_as_strong a m

-- what is held of a node above is as strong as the intention of what is held below
abbrev pub intends : Option Mode → Option Mode → Bool
intends None b = true
intends (Some a) b = is_enough b (intention a)
