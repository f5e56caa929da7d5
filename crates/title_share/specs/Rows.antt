-- Rows of owners: a party and its units each, in order of party.
use Rattle.std.specs.Prelude.{ℕ, ◌+◌, ◌-◌, Bool, true, cond, ◌&&◌, ◌||◌, List, [], ◌∷◌, eqb, leb, ltb, suc}

-- how many units the whole has: 2^32
abbrev pub whole_units : ℕ
whole_units = 4294967296

-- a party's units, 0 where it has no row
abbrev pub units_in : ℕ → List (ℕ × ℕ) → ℕ
units_in p [] = 0
units_in p (r ∷ rs) = cond (eqb r.0 p) r.1 (units_in p rs)

-- the units of all rows
abbrev pub total : List (ℕ × ℕ) → ℕ
total [] = 0
total (r ∷ rs) = r.1 + total rs

-- the parties rise from `least` on, and each has some units
abbrev pub in_order : ℕ → List (ℕ × ℕ) → Bool
in_order least [] = true
in_order least (r ∷ rs) = leb least r.0 && (ltb 0 r.1 && in_order (suc r.0) rs)

-- the rows divide the whole: in order of party, with units above 0 that sum to the whole
abbrev pub is_division : List (ℕ × ℕ) → Bool
is_division rows = in_order 0 rows && eqb (total rows) whole_units

-- a row in front, where it has units
abbrev pub with_front : ℕ → ℕ → List (ℕ × ℕ) → List (ℕ × ℕ)
with_front p n rs = cond (eqb n 0) rs ((p, n) ∷ rs)

-- the rows in which party p has n units, and all others what they had
abbrev pub with_units : ℕ → ℕ → List (ℕ × ℕ) → List (ℕ × ℕ)
with_units p n [] = with_front p n []
with_units p n (r ∷ rs) = cond (ltb r.0 p) (r ∷ with_units p n rs) (cond (eqb r.0 p) (with_front p n rs) (with_front p n (r ∷ rs)))

-- the rows after units have passed from a party to another; with 0 units, or to the same party, they stay
abbrev pub moved_rows : ℕ → ℕ → ℕ → List (ℕ × ℕ) → List (ℕ × ℕ)
moved_rows from to n rows =
    cond (eqb n 0 || eqb from to) rows
    (with_units to (units_in to rows + n) (with_units from (units_in from rows - n) rows))
