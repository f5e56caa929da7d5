-- What stands in a plant's file. Lists of records have the newest first; a record has its steps the oldest first.
use Rattle.std.specs.Prelude.{ℕ, List, [], ◌∷◌, codes}
use Rattle.title_land.specs.declared.survey.Township.{Township}
use Rattle.title_chain.specs.declared.record.Record.{Record}

-- the townships; the names of the parties, whose numbers are their indices from 0; and the records, each of whose steps was posted
pub record Standing : Type 0 where
  pub townships : List Township
  pub names : List (List ℕ)
  pub records : List Record

-- in a new file: one party, of which the land comes
abbrev pub nothing_standing : Standing
nothing_standing = record { townships = []; names = codes "UNITED STATES" ∷ []; records = [] }
