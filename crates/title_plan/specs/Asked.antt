-- What the rows of a script have declared and asked for.
use Rattle.std.specs.{Prelude.{ℕ, List, [], ◌∷◌, map, codes}, String.{string_bytes}}
use Rattle.title_land.specs.declared.survey.Township.{Township}
use Rattle.title_plan.specs.declared.{line.Line.{Line}, plan.Plan.{Plan}}

-- the townships; the names of the parties, whose numbers are their indices from 0; the steps; and the examiners whose
-- transactions are open, none where transactions are interleaved
pub record Asked : Type 0 where
  pub townships : List Township
  pub names : List (List ℕ)
  pub lines : List Line
  pub inside : List ℕ

-- before the first row there is one party, of which the land comes
abbrev pub nothing_asked : Asked
nothing_asked = record { townships = []; names = codes "UNITED STATES" ∷ []; lines = []; inside = [] }

-- what a plan holds
abbrev pub asked_in : Plan → Asked
asked_in p = record {
  townships = p.townships.items;
  names = map string_bytes p.parties.keys;
  lines = p.lines.items;
  inside = p.inside.items;
}
