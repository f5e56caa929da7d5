-- The grammar of descriptions, over letters in lower case with spaces and periods left out, and what a text of it says.
use Rattle.std.specs.Prelude.{ℕ, ◌+◌, ◌*◌, ◌-◌, Bool, true, false, min, fold, List, [], ◌∷◌, codes, Option, Some, None}
use Rattle.title_grammar.specs.Language.{Language, Gives, OneOf, Then, Many, Word, Maybe, cons, ◌*>◌, ◌<|>◌}
use Rattle.title_land.specs.declared.rectangle.{Quarter.{Quarter, TheVariants.{Northeast, Northwest, Southwest, Southeast}}, Half.{Half}}
use Rattle.title_land.specs.declared.rectangle.{Half.TheVariants.{North, South, East, West}, Step.{Step}}
use Rattle.title_land.specs.declared.rectangle.Step.TheVariants as step

-- ---- what a text says

-- a section and its parts, each by its steps, the innermost first; a part without steps is the whole section
pub record SectionSyntax : Type 0 where
  pub number : ℕ
  pub parts : List (List Step)

-- a township, and a section of it where one is named
pub record LandSyntax : Type 0 where
  pub township : ℕ
  pub north : Bool
  pub range : ℕ
  pub east : Bool
  pub section : Option SectionSyntax

-- what a text says
pub data Syntax : Type 0 where
  Everything : Syntax
  InTownship : LandSyntax → Syntax

-- ---- the grammar

-- the digits, 0 to 9
abbrev pub digits : List ℕ
digits = codes "0123456789"

-- numbers from 100 on are all read as 100
abbrev pub more_digits : ℕ → ℕ → ℕ
more_digits n c = min 100 (n * 10 + (c - 48))

-- the number that digits spell
abbrev pub decimal : ℕ → List ℕ → ℕ
decimal c cs = fold more_digits (more_digits 0 c) cs

-- number = digit { digit }
abbrev pub Number : Language ℕ
Number = Then decimal (OneOf digits) (Many (OneOf digits))

-- the quarter sign, U+00BC, and the half sign, U+00BD
abbrev pub quarter_sign : List ℕ
quarter_sign = 188 ∷ []

abbrev pub half_sign : List ℕ
half_sign = 189 ∷ []

-- qmark = "1/4" | "/4" | quarter sign
abbrev pub QuarterMark : Language (Unit {0})
QuarterMark = Word (codes "1/4") <|> Word (codes "/4") <|> Word quarter_sign

-- hmark = "1/2" | "/2" | half sign
abbrev pub HalfMark : Language (Unit {0})
HalfMark = Word (codes "1/2") <|> Word (codes "/2") <|> Word half_sign

-- half = "n" | "s" | "e" | "w"
abbrev pub HalfName : Language Half
HalfName = Gives North (codes "n") <|> Gives South (codes "s") <|> Gives East (codes "e") <|> Gives West (codes "w")

-- quarter = "ne" | "nw" | "sw" | "se"
abbrev pub QuarterName : Language Quarter
QuarterName = Gives Northeast (codes "ne") <|> Gives Northwest (codes "nw") <|> Gives Southwest (codes "sw") <|> Gives Southeast
    (codes "se")

-- step = quarter qmark | half hmark
abbrev pub StepText : Language Step
StepText = Then (λ q u. step.Quarter q) QuarterName QuarterMark <|> Then (λ h u. step.Half h) HalfName HalfMark

-- part = step { [ "of" ["the"] ] step }
abbrev pub Part : Language (List Step)
Part = Then cons StepText (Many (Maybe (Word (codes "of") *> Maybe (Word (codes "the"))) *> StepText))

-- the one part that is the whole section
abbrev pub whole_section : List (List Step)
whole_section = [] ∷ []

-- parts = "all" | part { "," part }
abbrev pub Parts : Language (List (List Step))
Parts = Gives whole_section (codes "all") <|> Then cons Part (Many (Word (codes ",") *> Part))

-- sec = ("section" | "sec") number
abbrev pub SectionNumber : Language ℕ
SectionNumber = (Word (codes "section") <|> Word (codes "sec")) *> Number

-- rng = "r" number ("e" | "w")
abbrev pub RangeText : Language (ℕ × Bool)
RangeText = Word (codes "r") *> Then (λ n e. (n, e)) Number (Gives true (codes "e") <|> Gives false (codes "w"))

-- twp = "t" number ("n" | "s")
abbrev pub TownshipText : Language (ℕ × Bool)
TownshipText = Word (codes "t") *> Then (λ n e. (n, e)) Number (Gives true (codes "n") <|> Gives false (codes "s"))

-- [ ["," | ":"] parts ]; no part is the whole section
abbrev pub SectionParts : Language (List (List Step))
SectionParts = ((Word (codes ",") <|> Word (codes ":") <|> Word []) *> Parts) <|> Gives whole_section []

-- a section with its number and parts
abbrev pub section_of : ℕ → List (List Step) → Option SectionSyntax
section_of n ps = Some (record { number = n; parts = ps })

-- [ [","] sec [ ["," | ":"] parts ] ]
abbrev pub SectionText : Language (Option SectionSyntax)
SectionText = (Maybe (Word (codes ",")) *> Then section_of SectionNumber SectionParts) <|> Gives None []

-- land, from its township, its range and its section
abbrev pub syntax_of : (ℕ × Bool) → ((ℕ × Bool) × Option SectionSyntax) → Syntax
syntax_of t r = InTownship (record { township = t.0; north = t.1; range = r.0.0; east = r.0.1; section = r.1 })

-- place = twp ["," | "-"] rng [ [","] sec [ ["," | ":"] parts ] ]
abbrev pub LandText : Language Syntax
LandText = Then syntax_of TownshipText ((Word (codes ",") <|> Word (codes "-") <|> Word []) *> Then (λ r s. (r, s)) RangeText SectionText)

-- text = "everything" | place
unfoldable pub Description : Language Syntax
Description = Gives Everything (codes "everything") <|> LandText
