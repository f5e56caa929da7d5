-- Townships, sections and cells (BLM, Manual of Surveying Instructions, 2009; the grid of cells is this project's).
use Rattle.std.specs.Prelude.{◌≡◌, ◌≤◌, ℕ, ◌^◌, Bool, true, false, ◌&&◌, ◌==◌, nat_lt}
use Rattle.title_land.specs.declared.survey.{Township.{Township}, Section.{Section}, Cell.{Cell}}

-- a township's number, or its range number
abbrev pub IsTownshipNumber : ℕ → Type 0
IsTownshipNumber n = (1 ≤ n) × (n ≤ 99)

-- a section's number
abbrev pub IsSectionNumber : ℕ → Type 0
IsSectionNumber n = (1 ≤ n) × (n ≤ 36)

-- the township has these numbers
pub record IsTownship (number : ℕ) (north : Bool) (range : ℕ) (east : Bool) (t : Township) : Type 0 where
  pub number_is : t.number ≡ number
  pub north_is : t.north ≡ north
  pub range_is : t.range ≡ range
  pub east_is : t.east ≡ east

-- the section is that of this number in the township
pub record IsSection (township : Township) (number : ℕ) (s : Section) : Type 0 where
  pub township_is : s.township ≡ township
  pub number_is : s.number ≡ number

abbrev pub same_flag : Bool → Bool → Bool
same_flag true b = b
same_flag false true = false
same_flag false false = true

-- the townships are one
abbrev pub same_township : Township → Township → Bool
same_township a b = ((a.number == b.number && same_flag a.north b.north) && a.range == b.range) && same_flag a.east b.east

-- the sections are one
abbrev pub same_section : Section → Section → Bool
same_section a b = same_township a.township b.township && a.number == b.number

-- the cells on a section's side, where a section is quartered this often
abbrev pub side : ℕ → ℕ
side depth = 2 ^ depth

-- the cell stands on the grid of its section
abbrev pub is_on_grid : ℕ → Cell → Bool
is_on_grid depth c = nat_lt c.row (side depth) && nat_lt c.column (side depth)
