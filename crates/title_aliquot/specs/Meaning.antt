-- What a text's numbers and parts stand for. The depth is how often a section is quartered down to its cells.
use Rattle.std.specs.{Prelude.{◌≡◌, ℕ, true, false, Bool, List, [], ◌∷◌, Option, Some, None, ◌⊎◌}, Option.{is_some}}
use Rattle.std.specs.List.{list_any, list_all, filter_map}
use Rattle.title_land.specs.declared.{rectangle.{Step.{Step}, Rectangle.{Rectangle}}, survey.{Township.{Township}, Section.{Section}}}
use Rattle.title_land.specs.{declared.tract.Land.{Land}, Survey.{IsTownshipNumber, IsTownship, IsSectionNumber, IsSection}, Grids.{grid_of}}
use Rattle.title_land.specs.Rectangles.{part_of, holds, SharesCell}
use Rattle.title_land.specs.declared.tract.Land.TheVariants as land
use Rattle.title_aliquot.specs.Grammar.{Syntax, Everything, InTownship, SectionSyntax}

-- ---- numbers

-- a section that is named has a number from 1 to 36
abbrev pub SectionIsNumbered : Option SectionSyntax → Type 0
SectionIsNumbered None = Unit {0}
SectionIsNumbered (Some s) = IsSectionNumber s.number

-- township and range numbers are 1 to 99, and a section's number is 1 to 36
abbrev pub IsNumbered : Syntax → Type 0
IsNumbered Everything = Unit {0}
IsNumbered (InTownship p) = IsTownshipNumber p.township × IsTownshipNumber p.range × SectionIsNumbered p.section

-- ---- parts

-- the parts that are named; all and no part name one without steps, the whole section
abbrev pub section_parts : Option SectionSyntax → List (List Step)
section_parts None = []
section_parts (Some s) = s.parts

abbrev pub parts_of : Syntax → List (List Step)
parts_of Everything = []
parts_of (InTownship p) = section_parts p.section

-- no step of a part halves a side of one cell
abbrev pub parts_exist : ℕ → List (List Step) → Bool
parts_exist depth parts = list_all (λ steps. is_some (part_of depth steps)) parts

-- the rectangles of the parts that exist
abbrev pub rectangles : ℕ → List (List Step) → List Rectangle
rectangles depth parts = filter_map (part_of depth) parts

-- a rectangle shares a cell with one of others
abbrev pub SharesCellWithOne : Rectangle → List Rectangle → Type 0
SharesCellWithOne r [] = ⊥
SharesCellWithOne r (s ∷ others) = SharesCell r s ⊎ SharesCellWithOne r others

-- two of the rectangles share a cell
abbrev pub Overlap : List Rectangle → Type 0
Overlap [] = ⊥
Overlap (r ∷ others) = SharesCellWithOne r others ⊎ Overlap others

-- ---- the land

-- the cells of the rectangles
abbrev pub union : List Rectangle → ℕ → ℕ → Bool
union shapes row column = list_any (λ r. holds r row column) shapes

-- the township, or in the section the union of the parts
abbrev pub IsLandIn : ℕ → Township → Option SectionSyntax → Land → Type 0
IsLandIn depth t None l = l ≡ land.Township t
IsLandIn depth t (Some s) l =
    (z : Section) × IsSection t s.number z × (l ≡ land.Part z (grid_of depth (union (rectangles depth s.parts))))

-- the land is every cell, or the land in the township with these numbers
abbrev pub IsLandOf : ℕ → Syntax → Land → Type 0
IsLandOf depth Everything l = l ≡ land.Everything
IsLandOf depth (InTownship p) l =
    (t : Township) × IsTownship p.township p.north p.range p.east t × IsLandIn depth t p.section l

-- the numbers fit, each part exists, no two share a cell, and the land is the one that they name
pub record StandsFor (depth : ℕ) (s : Syntax) (l : Land) : Type 0 where
  pub numbered : IsNumbered s
  pub exist : parts_exist depth (parts_of s) ≡ true
  pub apart : Overlap (rectangles depth (parts_of s)) → ⊥
  pub land_is : IsLandOf depth s l

-- ---- its faults, in their order

-- a township or range number is not 1 to 99, or a section is not 1 to 36
abbrev pub IsOutOfRange : Syntax → Type 0
IsOutOfRange s = IsNumbered s → ⊥

-- a step halves a side of one cell
pub record IsTooSmall (depth : ℕ) (s : Syntax) : Type 0 where
  pub numbered : IsNumbered s
  pub missing : parts_exist depth (parts_of s) ≡ false

-- two parts share a cell
pub record IsOverlapping (depth : ℕ) (s : Syntax) : Type 0 where
  pub numbered : IsNumbered s
  pub exist : parts_exist depth (parts_of s) ≡ true
  pub overlap : Overlap (rectangles depth (parts_of s))
