-- The block that adds to what stands what is new.
use Rattle.std.specs.Prelude.{◌≡◌, ℕ, ◌-◌, ◌==◌, cond, List, [], ◌∷◌, ◌++◌, drop, length, map, reverse, take, Option, Some, None}
use Rattle.std.specs.List.{flat_map}
use Rattle.title_land.specs.declared.survey.Township.{Township}
use Rattle.title_chain.specs.declared.{ask.{Answer.{Answer}, Ask.{Ask}, Step.{Step}, Terms.{Terms}}, record.Record.{Record}}
use Rattle.title_chain.specs.declared.ask.Answer.TheVariants as answer
use Rattle.title_chain.specs.declared.ask.Ask.TheVariants as ask
use Rattle.title_page.specs.Rows.{row}
use Rattle.title_spelling.specs.Rows.{PlantRow, fields_of}
use Rattle.title_spelling.specs.Rows as plant
use Rattle.title_daybook.specs.Standing.{Standing}

-- ---- rows

-- what a step posted: reads and refused posts are left out
abbrev pub posted : Ask → Answer → Option Terms
posted (ask.Post post) answer.Posted = Some post
posted a b = None

abbrev pub at_most_one : Option Terms → List Terms
at_most_one None = []
at_most_one (Some post) = post ∷ []

-- what steps posted
abbrev pub posts_of : List Step → List Terms
posts_of steps = flat_map (λ s. at_most_one (posted s.ask s.answer)) steps

-- the rows of posts
abbrev pub post_rows : ℕ → List Terms → List PlantRow
post_rows e posts = map (plant.Post e) posts

-- the rows of a transaction: one that posted once is the row of its post, and any other begins and commits
abbrev pub transaction_rows : ℕ → List Terms → List PlantRow
transaction_rows e posts =
    cond (length posts == 1) (post_rows e posts) (plant.Begin e ∷ (post_rows e posts ++ plant.Commit e ∷ []))

abbrev pub record_rows : Record → List PlantRow
record_rows r = transaction_rows r.examiner (posts_of r.steps)

-- the rows that declare townships and parties, keep records, the oldest first, and end their block where so many records stand
abbrev pub rows_of : List Township → List (List ℕ) → List Record → ℕ → List PlantRow
rows_of townships names records number =
    map plant.Township townships ++ map plant.Party names ++ flat_map record_rows records ++ plant.End number ∷ []

-- ---- the block

-- what is new goes on from what is old
pub record IsOn (old new : Standing) : Type 0 where
  pub townships : List Township
  pub names : List (List ℕ)
  pub records : List Record
  pub townships_are : new.townships ≡ old.townships ++ townships
  pub names_are : new.names ≡ old.names ++ names
  pub records_are : new.records ≡ records ++ old.records

-- the rows that add what the new has and the old hasn't
abbrev pub added_rows : Standing → Standing → List PlantRow
added_rows old new =
    rows_of (drop (length old.townships) new.townships) (drop (length old.names) new.names)
    (reverse (take (length new.records - length old.records) new.records)) (length new.records)

-- the text of rows, among parties with these names
abbrev pub text_of : List (List ℕ) → List PlantRow → List ℕ
text_of names rows = flat_map (λ r. row (fields_of names r)) rows

-- the block
abbrev pub added_block : Standing → Standing → List ℕ
added_block old new = text_of new.names (added_rows old new)
