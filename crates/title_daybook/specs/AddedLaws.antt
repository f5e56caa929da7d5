-- The law of blocks that add: with one behind the blocks that stand for the old, they stand for the new.
use Rattle.std.specs.{Prelude.{◌≡◌, ◌≤◌, ◌<◌, ◌+◌, ◌^◌, ℕ, true, List, [], ◌∷◌, ◌++◌, drop, length, map, reverse, Ok}, Str.{is_utf8}}
use Rattle.std.specs.List.{list_all, AllByRecursion}
use Rattle.title_chain.specs.{declared.{ask.Terms.{Terms}, record.Record.{Record}}, Alone.{most_parties}}
use Rattle.title_journal.specs.Blocks.{IsBlock}
use Rattle.title_plan.specs.Townships.{each_once}
use Rattle.title_spelling.specs.{Posts.{IsExaminer, IsPost}, Rows.{are_names}}
use Rattle.title_standing.specs.{Records.{posted_step}, Standing.{kept}}
use Rattle.title_trace.specs.Due.{most_steps, most_townships}
use Rattle.title_daybook.specs.{Added.{added_block, rows_of, text_of, IsOn}, Files.{standing_after}, Standing.{Standing}}

-- a record among parties with these names: each of its steps was posted, and can be written
pub record IsKept (names : List (List ℕ)) (r : Record) : Type 0 where
  pub posts : List Terms
  pub steps : r.steps ≡ map posted_step posts
  pub examiner : IsExaminer r.examiner
  pub few : length posts ≤ most_steps
  pub each : AllByRecursion (IsPost names r.examiner) posts

-- what stands can be written: no township twice, names that are text, each of one party, within what there may be; and its records
pub record CanBeWritten (s : Standing) : Type 0 where
  pub once : each_once s.townships ≡ true
  pub few_townships : length s.townships ≤ most_townships
  pub names : are_names s.names ≡ true
  pub texts : list_all is_utf8 s.names ≡ true
  pub few_names : length s.names ≤ most_parties
  pub few_records : length s.records < 2 ^ 64
  pub records : AllByRecursion (IsKept s.names) s.records

-- the text that adds what is new is a block, and with it behind them the blocks that stand for the old stand for the new
abbrev pub AddedReadsBack : Type 0
AddedReadsBack = (blocks : List (List ℕ)) (old new : Standing) → standing_after (Ok blocks) ≡ Ok old → IsOn old new → CanBeWritten new
    → IsBlock (added_block old new) × (standing_after (Ok (blocks ++ added_block old new ∷ [])) ≡ Ok new)

-- of records a block has what is kept of them: written for records that a desk has committed, the oldest first, it adds what is kept
abbrev pub KeptAreWritten : Type 0
KeptAreWritten = (old new : Standing) (records : List Record) → new.records ≡ map kept (reverse records) ++ old.records
    → text_of new.names (rows_of (drop (length old.townships) new.townships) (drop (length old.names) new.names) records
    (length old.records + length records)) ≡ added_block old new
