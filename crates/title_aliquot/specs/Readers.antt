-- Readers of the grammar, one for each line.
use Rattle.std.specs.Prelude.{ℕ, Bool, true, false, List, [], ◌∷◌, ◌++◌, codes, Option, None}
use Rattle.title_grammar.specs.{Language.{cons}, Reading.{maybe_at}}
use Rattle.title_grammar.specs.Reading.{Read, Got, and_then, gives_at, one_of_at, then_at, or_at, many_at, word_at, behind, as_at, choice}
use Rattle.title_land.specs.declared.rectangle.{Quarter.{Quarter, TheVariants.{Northeast, Northwest, Southwest, Southeast}}, Half.{Half}}
use Rattle.title_land.specs.declared.rectangle.{Half.TheVariants.{North, South, East, West}, Step.{Step}}
use Rattle.title_land.specs.declared.rectangle.Step.TheVariants as step
use Rattle.title_aliquot.specs.Grammar.{digits, decimal, quarter_sign, half_sign, SectionSyntax, Syntax, Everything, section_of, syntax_of}
use Rattle.title_aliquot.specs.Grammar.{whole_section}

unfoldable pub number_at : List ℕ → Read ℕ
number_at s = then_at decimal (one_of_at digits) (many_at digits (one_of_at digits)) s

unfoldable pub quarter_mark_at : List ℕ → Read (Unit {0})
quarter_mark_at s = or_at (codes "1") (word_at (codes "1/4")) (or_at (codes "/") (word_at (codes "/4")) (word_at quarter_sign)) s

unfoldable pub half_mark_at : List ℕ → Read (Unit {0})
half_mark_at s = or_at (codes "1") (word_at (codes "1/2")) (or_at (codes "/") (word_at (codes "/2")) (word_at half_sign)) s

-- what may stand behind an n or an s
unfoldable pub behind_at : Quarter → Quarter → Half → List ℕ → Read Step
behind_at east west half s =
    or_at (codes "e") (behind (word_at (codes "e")) (as_at (step.Quarter east) quarter_mark_at))
    (or_at (codes "w") (behind (word_at (codes "w")) (as_at (step.Quarter west) quarter_mark_at))
    (as_at (step.Half half) half_mark_at)) s

unfoldable pub step_at : List ℕ → Read Step
step_at s =
    or_at (codes "n") (behind (word_at (codes "n")) (behind_at Northeast Northwest North))
    (or_at (codes "s") (behind (word_at (codes "s")) (behind_at Southeast Southwest South))
    (or_at (codes "e") (behind (word_at (codes "e")) (as_at (step.Half East) half_mark_at))
    (behind (word_at (codes "w")) (as_at (step.Half West) half_mark_at)))) s

-- [ "of" ["the"] ] step
unfoldable pub joined_at : List ℕ → Read Step
joined_at s = behind (maybe_at (codes "o") (behind (word_at (codes "of")) (maybe_at (codes "t") (word_at (codes "the"))))) step_at s

unfoldable pub part_at : List ℕ → Read (List Step)
part_at s = then_at cons step_at (many_at (codes "onsew") joined_at) s

-- parts, with the one that a reads behind them
abbrev pub with_part : List (List Step) → (List ℕ → Read (List Step)) → List ℕ → Read (List (List Step))
with_part parts a s = and_then (a s) (λ part r. Got (parts ++ part ∷ []) r)

abbrev pub next_part_at : List ℕ → Read (List Step)
next_part_at s = behind (word_at (codes ",")) part_at s

unfoldable pub parts_at : List ℕ → Read (List (List Step))
parts_at s = or_at (codes "a") (gives_at whole_section (codes "all")) (then_at cons part_at (many_at (codes ",") next_part_at)) s

unfoldable pub section_number_at : List ℕ → Read ℕ
section_number_at s = behind (behind (word_at (codes "sec")) (maybe_at (codes "t") (word_at (codes "tion")))) number_at s

unfoldable pub range_at : List ℕ → Read (ℕ × Bool)
range_at s = behind (word_at (codes "r")) (then_at (λ n e. (n, e)) number_at (choice true false (codes "e") (codes "w"))) s

unfoldable pub township_at : List ℕ → Read (ℕ × Bool)
township_at s = behind (word_at (codes "t")) (then_at (λ n e. (n, e)) number_at (choice true false (codes "n") (codes "s"))) s

-- [ ["," | ":"] parts ]
unfoldable pub section_parts_at : List ℕ → Read (List (List Step))
section_parts_at s =
    or_at (codes ",:ansew") (behind (or_at (codes ",") (word_at (codes ",")) (maybe_at (codes ":") (word_at (codes ":")))) parts_at)
    (gives_at whole_section []) s

-- [ [","] sec [ ["," | ":"] parts ] ]
unfoldable pub section_at : List ℕ → Read (Option SectionSyntax)
section_at s =
    or_at (codes ",s") (behind (maybe_at (codes ",") (word_at (codes ","))) (then_at section_of section_number_at section_parts_at))
    (gives_at None []) s

unfoldable pub land_at : List ℕ → Read Syntax
land_at s =
    then_at syntax_of township_at
    (behind (or_at (codes ",") (word_at (codes ",")) (maybe_at (codes "-") (word_at (codes "-"))))
    (then_at (λ r s. (r, s)) range_at section_at)) s

unfoldable pub description_at : List ℕ → Read Syntax
description_at s = or_at (codes "e") (gives_at Everything (codes "everything")) land_at s
