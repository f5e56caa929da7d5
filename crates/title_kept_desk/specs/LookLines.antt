-- Lines at a desk that only looks.
use Rattle.std.specs.Prelude.{◌≡◌, ◌≤◌, ◌==◌, ℕ, ◌+◌, cond, length, false, List, [], ◌∷◌, ◌++◌, codes}
use Rattle.std.specs.{Prelude.{is_some}, List.{flat_map, list_any}}
use Rattle.title_counter.specs.{Limits.{longest_line}, Lines.{line_feed}}
use Rattle.title_lasting.specs.LookRows.{other_in}

-- a row that says nothing
abbrev pub nothing_said : List ℕ
nothing_said = codes "?"

-- what a line counts as at a look: one with a row that doesn't only look, as one that says nothing; a blank line stays one
abbrev pub as_look : List ℕ → List ℕ
as_look [] = []
as_look (byte ∷ bytes) = cond (is_some (other_in ((byte ∷ bytes) ++ line_feed ∷ []))) nothing_said (byte ∷ bytes)

-- a line, or the beginning of one: it has no line feed, and no more bytes than are kept of a line
pub record IsStart (line : List ℕ) : Type 0 where
  pub whole : list_any (λ byte. byte == line_feed) line ≡ false
  pub short : length line ≤ longest_line + 1

-- lines as a text, each with its line feed
abbrev pub lines_text : List (List ℕ) → List ℕ
lines_text lines = flat_map (λ line. line ++ line_feed ∷ []) lines
