-- The indices of townships in a table by their numbers.
use Rattle.std.specs.Prelude.{◌≡◌, ℕ, ◌+◌, ◌*◌, ◌≤◌, cond, List, length, get_or}
use Rattle.title_land.specs.declared.survey.Township.{Township}
use Rattle.title_tree_store.specs.Spots.{index_of}

-- the number of a township among all that there can be
abbrev pub number_of : Township → ℕ
number_of t = (cond t.north 100 0 + t.number) * 200 + cond t.east 100 0 + t.range

-- the table tells the index of each township
pub record AreIndexed (indices : List ℕ) (ts : List Township) : Type 0 where
  pub long : 40000 ≤ length indices
  pub found : (t : Township) → get_or indices (number_of t) 0 ≡ index_of ts t
