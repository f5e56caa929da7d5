-- Rectangles of a section's cells. The depth is how often a section is quartered: its side is 2 ^ depth cells.
use Rattle.std.specs.Prelude.{◌≡◌, ℕ, ◌+◌, ◌/◌, ◌%◌, ◌≤◌, Bool, true, ◌&&◌, List, [], ◌∷◌, Option, Some, None, option_and_then, nat_lt}
use Rattle.std.specs.Prelude.{nat_le, ◌==◌, if◌then◌else◌, max, min}
use Rattle.title_land.specs.{Survey.{side}, declared.rectangle.Quarter.{Quarter, TheVariants.{Northeast, Northwest, Southwest, Southeast}}}
use Rattle.title_land.specs.declared.rectangle.{Half.{Half, TheVariants.{North, South, East, West}}, Step.{Step}, Rectangle.{Rectangle}}
use Rattle.title_land.specs.declared.rectangle.Step.TheVariants as step

-- the whole section
abbrev pub section_square : ℕ → Rectangle
section_square depth = record { top = 0; left = 0; height = side depth; width = side depth }

abbrev pub is_even : ℕ → Bool
is_even n = n % 2 == 0

-- the rectangle lies in the section
abbrev pub InSection : ℕ → Rectangle → Type 0
InSection depth r = (r.top + r.height ≤ side depth) × (r.left + r.width ≤ side depth)

-- the halves, sides halved whether even or not
abbrev pub half_of : Half → Rectangle → Rectangle
half_of North r = record { top = r.top; left = r.left; height = r.height / 2; width = r.width }
half_of South r = record { top = r.top + r.height / 2; left = r.left; height = r.height / 2; width = r.width }
half_of West r = record { top = r.top; left = r.left; height = r.height; width = r.width / 2 }
half_of East r = record { top = r.top; left = r.left + r.width / 2; height = r.height; width = r.width / 2 }

-- the quarters: a half of a half
abbrev pub quarter_of : Quarter → Rectangle → Rectangle
quarter_of Northeast r = half_of North (half_of East r)
quarter_of Northwest r = half_of North (half_of West r)
quarter_of Southwest r = half_of South (half_of West r)
quarter_of Southeast r = half_of South (half_of East r)

-- the two quarters that a half of a square is, in the order in which quarters are listed
abbrev pub first_quarter : Half → Quarter
first_quarter North = Northeast
first_quarter South = Southwest
first_quarter East = Northeast
first_quarter West = Northwest

abbrev pub second_quarter : Half → Quarter
second_quarter North = Northwest
second_quarter South = Southeast
second_quarter East = Southeast
second_quarter West = Southwest

abbrev pub taken_of : Step → Rectangle → Rectangle
taken_of (step.Quarter q) r = quarter_of q r
taken_of (step.Half h) r = half_of h r

-- the sides that a step halves are even
abbrev pub exists : Step → Rectangle → Bool
exists (step.Quarter q) r = is_even r.height && is_even r.width
exists (step.Half North) r = is_even r.height
exists (step.Half South) r = is_even r.height
exists (step.Half East) r = is_even r.width
exists (step.Half West) r = is_even r.width

-- what a step takes of a rectangle; none where it would halve an odd side
abbrev pub step_of : Step → Rectangle → Option Rectangle
step_of s r = if exists s r then Some (taken_of s r) else None

-- what a part's steps take of the section, from the last step to the first
abbrev pub part_of : ℕ → List Step → Option Rectangle
part_of depth [] = Some (section_square depth)
part_of depth (s ∷ steps) = option_and_then (step_of s) (part_of depth steps)

-- the cell of this row and column lies in the rectangle
abbrev pub holds : Rectangle → ℕ → ℕ → Bool
holds r row column =
    nat_le r.top row && nat_lt row (r.top + r.height) && nat_le r.left column && nat_lt column (r.left + r.width)

-- the ranges of n numbers from a and of m numbers from b have one in common
abbrev pub ranges_meet : ℕ → ℕ → ℕ → ℕ → Bool
ranges_meet a n b m = nat_lt (max a b) (min (a + n) (b + m))

-- the rectangles share a cell, computed by their sides
abbrev pub rectangles_meet : Rectangle → Rectangle → Bool
rectangles_meet r s = ranges_meet r.top r.height s.top s.height && ranges_meet r.left r.width s.left s.width

-- the rectangles share a cell
abbrev pub SharesCell : Rectangle → Rectangle → Type 0
SharesCell r s = (row : ℕ) × (column : ℕ) × (holds r row column ≡ true) × (holds s row column ≡ true)
