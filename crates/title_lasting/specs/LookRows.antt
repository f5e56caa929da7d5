-- Rows that only look: at a look nothing is declared, posted or committed.
use Rattle.std.specs.Prelude.{ℕ, ◌+◌, cond, Bool, true, false, List, [], ◌∷◌, Option, Some, None, take}
use Rattle.title_plan.specs.{declared.row.{Act.{Act}, Row.{Row}}, Limits.{most_rows}, Plans.{rows_in, understood}}
use Rattle.title_plan.specs.declared.row.Act.TheVariants as act
use Rattle.title_plan.specs.declared.row.Row.TheVariants as row

-- what an examiner does only looks
abbrev pub only_looks : Act (List ℕ) → Bool
only_looks act.Begin = true
only_looks act.Commit = false
only_looks act.Abort = true
only_looks (act.Sheet text) = true
only_looks (act.Chain text) = true
only_looks (act.Post doc instrument text) = false

-- a row that declares something doesn't
abbrev pub says_look : Row (List ℕ) → Bool
says_look (row.Township text) = false
says_look (row.Party name) = false
says_look (row.Step e a) = only_looks a

-- nor does one that isn't understood
abbrev pub looks_if : Option (Row (List ℕ)) → Bool
looks_if None = false
looks_if (Some said) = says_look said

-- a row with these fields
abbrev pub is_look : List (List ℕ) → Bool
is_look fields = looks_if (understood 1 fields)

-- the first of these rows that doesn't only look; the first of them is the n-th
abbrev pub first_other : ℕ → List (List (List ℕ)) → Option ℕ
first_other n [] = None
first_other n (fields ∷ rows) = cond (is_look fields) (first_other (n + 1) rows) (Some n)

-- the first row of a text that doesn't only look, among as many as a script may have
abbrev pub other_in : List ℕ → Option ℕ
other_in text = first_other 1 (take most_rows (rows_in text))
