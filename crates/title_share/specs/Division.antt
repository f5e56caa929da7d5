-- How a whole is divided among parties: a finite map from parties to units above 0 whose sum is the whole.
use Rattle.std.{specs.Prelude.{ℕ, ◌≡◌, ◌+◌, ◌-◌, ◌&&◌, Bool, true, false, cond, eqb, List, [], ◌∷◌, refl}, proofs.Common.{ap}}
use Rattle.std.proofs.Math.{Dec.{leb-zero}, Bool.{Bool-set}}
use base.Stored.{Coded, coded_via, coded_list, coded×, coded_ℕ}
use mathlib.Core.HLevel.{Σ_prop_path}
use Rattle.title_share.specs.Rows.{is_division, units_in, moved_rows, whole_units}

-- rows that divide the whole
pub record Division : Type 0 where
  pub rows : List (ℕ × ℕ)
  pub divides : is_division rows ≡ true

-- the rows, in order of party
unfoldable pub rows_of : Division → List (ℕ × ℕ)
rows_of d = d.rows

-- a party's units, 0 where it has none
abbrev pub units_of : ℕ → Division → ℕ
units_of party d = units_in party (rows_of d)

-- the rows divide the whole
pub rows_divide : (d : Division) → is_division (rows_of d) ≡ true
unfolding rows_of
rows_divide d = d.divides

-- divisions with the same rows are equal
pub same_rows : (d e : Division) → rows_of d ≡ rows_of e → d ≡ e
unfolding rows_of
same_rows d e h =
    let pairs : ◌≡◌ {A = (rows : List (ℕ × ℕ)) × (is_division rows ≡ true)} (d.rows, d.divides) (e.rows, e.divides) =
    Σ_prop_path (λ rows. Bool-set (is_division rows) true) h in
    λ i. record { rows = (pairs i).0; divides = (pairs i).1 }

-- a division is stored as its rows
abbrev pub division_code : Coded Division
division_code = coded_via (coded_list (coded× coded_ℕ coded_ℕ)) rows_of same_rows

-- one row with all units divides the whole
pub one_row : (party : ℕ) → is_division ((party, whole_units) ∷ []) ≡ true
one_row party = ap (λ b. (b && true) && true) (leb-zero party)

-- the division in which a party has the whole
unfoldable pub all_to : ℕ → Division
all_to party = record { rows = (party, whole_units) ∷ []; divides = one_row party }

-- rows that were tested, or else another division
unfoldable pub checked : (rows : List (ℕ × ℕ)) (b : Bool) → is_division rows ≡ b → Division → Division
checked rows true e other = record { rows = rows; divides = e }
checked rows false e other = other

-- the division with these rows; where they divide nothing, another
unfoldable pub division_or : Division → List (ℕ × ℕ) → Division
division_or other rows = checked rows _ refl other

-- the division with these rows; where they divide nothing, party 0 has the whole
abbrev pub division_of : List (ℕ × ℕ) → Division
division_of rows = division_or (all_to 0) rows

-- what a party has after n units have passed, by what each had before: nothing changes where they pass to the same party
abbrev pub units_after : ℕ → ℕ → ℕ → (ℕ → ℕ) → ℕ → ℕ
units_after from to n had party =
    cond (eqb from to) (had party)
    (cond (eqb from party) (had from - n) (cond (eqb to party) (had to + n) (had party)))

-- the division after units have passed from a party to another
abbrev pub moved : ℕ → ℕ → ℕ → Division → Division
moved from to n d = division_or d (moved_rows from to n (rows_of d))
