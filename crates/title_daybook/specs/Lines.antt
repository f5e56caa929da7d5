-- The rows of a block, and the fields of a row.
use Rattle.std.specs.Prelude.{◌≡◌, ◌≤◌, ◌<◌, ℕ, ◌+◌, ◌==◌, cond, false, length, take, drop, List, [], ◌∷◌, ◌++◌, Bool, Option, Some}
use Rattle.std.specs.{Prelude.{None, if◌then◌else◌}, List.{list_all, list_any}, Str.{is_utf8}}
use Rattle.csv.specs.Reading.{default_config, records}
use Rattle.title_journal.specs.Blocks.{line_feed}
use Rattle.title_plan.specs.{Fields.{given}, Rows.{row_in}, declared.row.Row.{Row}}

-- what is left of a row at the end of a text: a row of its own, or nothing
abbrev pub last_line : List ℕ → List (List ℕ)
last_line [] = []
last_line (byte ∷ bytes) = (byte ∷ bytes) ∷ []

-- the rows of a text, of the first of which these bytes have been read: each is a line, without its line feed
abbrev pub lines_from : List ℕ → List ℕ → List (List ℕ)
lines_from start [] = last_line start
lines_from start (byte ∷ bytes) =
    if byte == line_feed then start ∷ lines_from [] bytes else lines_from (start ++ byte ∷ []) bytes

-- the rows of a text
abbrev pub lines_of : List ℕ → List (List ℕ)
lines_of text = lines_from [] text

-- the first row of some bytes is so long: it has no line feed, and the other rows stand behind its own
pub record IsFirstLine (bytes : List ℕ) (len : ℕ) : Type 0 where
  pub within : len ≤ length bytes
  pub lines : lines_of bytes ≡ take len bytes ∷ lines_of (drop (len + 1) bytes)
  pub row : list_any (λ byte. byte == line_feed) (take len bytes) ≡ false
  pub feed : len + 1 < length bytes → bytes ≡ take len bytes ++ line_feed ∷ drop (len + 1) bytes

-- ---- fields

abbrev pub carriage_return : ℕ
carriage_return = 13

-- whether a row has a carriage return
abbrev pub has_return : List ℕ → Bool
has_return line = list_any (λ byte. byte == carriage_return) line

-- whether a field goes on over the end of its row: a quote isn't closed there
abbrev pub has_line_feed : List ℕ → Bool
has_line_feed field = list_any (λ byte. byte == line_feed) field

abbrev pub is_spoilt : Option (List ℕ) → Bool
is_spoilt None = false
is_spoilt (Some field) = has_line_feed field

-- fields that end in their row
abbrev pub closed : List (List ℕ) → Option (List (List ℕ))
closed fields = cond (list_any has_line_feed fields) None (Some fields)

-- the fields of the one record among records
abbrev pub only : List (List (List ℕ)) → Option (List (List ℕ))
only [] = None
only (fields ∷ []) = closed fields
only (fields ∷ more ∷ others) = None

-- the fields of a row, which has no carriage return: with its line feed it is one record of CSV
abbrev pub fields_in : List ℕ → Option (List (List ℕ))
fields_in line = cond (has_return line) None (only (records default_config (line ++ line_feed ∷ [])))

-- what fields of UTF-8 say, as in scripts
abbrev pub said_by : List (List ℕ) → Option (Row (List ℕ))
said_by fields = cond (list_all is_utf8 fields) (row_in fields) None

-- what a row says
abbrev pub row_said : List ℕ → Option (Row (List ℕ))
row_said line = given (fields_in line) said_by
