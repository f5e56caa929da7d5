-- The row that a line is.
use Rattle.std.specs.{Prelude.{ℕ, ◌==◌, cond, Bool, false, List, [], ◌∷◌, ◌++◌, Option, Some, None}, List.{list_any}}
use Rattle.csv.specs.{Records.{fields_of}, declared.record.ByteRecord.{ByteRecord}}
use Rattle.title_plan.specs.Plans.{rows_in}
use Rattle.title_counter.specs.{Lines.{line_feed}, declared.found.Found.{Found}}
use Rattle.title_counter.specs.declared.found.Found.TheVariants as found

-- a field goes on over the end of its line: its quote isn't closed there
abbrev pub has_line_feed : List ℕ → Bool
has_line_feed field = list_any (λ byte. byte == line_feed) field

abbrev pub is_spoilt : Option (List ℕ) → Bool
is_spoilt None = false
is_spoilt (Some field) = has_line_feed field

-- what is found among the records of a line: no row, one, or something else
abbrev pub found_among : List (List (List ℕ)) → Found (List (List ℕ))
found_among [] = found.Blank
found_among (fields ∷ []) = cond (list_any has_line_feed fields) found.Spoilt (found.Row fields)
found_among (fields ∷ more ∷ others) = found.Spoilt

-- a line is read by itself, as a script of this one line
abbrev pub found_in : List ℕ → Found (List (List ℕ))
found_in line = found_among (rows_in (line ++ line_feed ∷ []))

-- what the code found
abbrev pub found_of : Found ByteRecord → Found (List (List ℕ))
found_of found.Blank = found.Blank
found_of found.Spoilt = found.Spoilt
found_of (found.Row raw) = found.Row (fields_of raw)
