-- Names of which it is known whether they are quoted.
use Rattle.std.specs.{Prelude.{◌≡◌, ◌<◌, ◌*◌, ◌==◌, ℕ, List, drop, length, slice_index}, Int.{bit_at}}
use Rattle.csv.specs.Writing.{needs_quotes}
use Rattle.title_page.specs.Rows.{row_writer}
use Rattle.title_report.specs.Replies.{name_of}

-- the bits of a word are those of the first 64 names: whether each is quoted
abbrev pub IsJudged : List (List ℕ) → ℕ → Type 0
IsJudged names word = (at : ℕ) → at < 64 → (bit_at word at == 1) ≡ needs_quotes row_writer (name_of names at)

-- each word has the bits of its 64 names
abbrev pub AreJudged : List (List ℕ) → List ℕ → Type 0
AreJudged names words = (k : ℕ) → k < length words → IsJudged (drop (k * 64) names) (slice_index words k)
