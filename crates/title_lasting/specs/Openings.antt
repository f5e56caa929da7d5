-- What an opening finds in a plant's file. Lists of records have the newest first.
use Rattle.std.specs.Prelude.{◌≡◌, ◌⊎◌, ℕ, List, drop, length, Result, Ok, Err}
use Rattle.title_journal.specs.{declared.blocks.Tail.{Tail}, Blocks.{blocks_in, front}, Rest.{at_rest, tail_of}}
use Rattle.title_journal.specs.declared.blocks.Tail.TheVariants as tail
use Rattle.title_daybook.specs.{Files.{row_of, standing_in}, Standing.{Standing}}
use Rattle.title_lasting.specs.Refusals.{IsFirstRefused}

-- a file is no plant, by this row: the row doesn't stand there rightly, or a transaction ends in it that can't stand
abbrev pub IsNoPlant : List ℕ → ℕ → Type 0
IsNoPlant file row =
    (standing_in file ≡ Err row)
    ⊎ ((s : Standing) × (place : ℕ) × (standing_in file ≡ Ok s) × IsFirstRefused s.townships s.records place × (row ≡ row_of file place))

-- the bytes of a tail that is cut off: none where it is a closed gate alone
abbrev pub bytes_of : Tail → ℕ
bytes_of tail.Closed = 0
bytes_of (tail.Torn n) = n

-- how many bytes behind the blocks of a file are cut off
abbrev pub cut_behind : List ℕ → Result (List (List ℕ)) ℕ → ℕ
cut_behind file (Ok blocks) = bytes_of (tail_of (drop (length (front blocks)) file))
cut_behind file (Err row) = 0

abbrev pub cut_in : List ℕ → ℕ
cut_in file = cut_behind file (blocks_in file)

-- a file is at rest: behind its blocks stands a closed gate alone
abbrev pub IsResting : List ℕ → Type 0
IsResting file = (blocks : List (List ℕ)) × (blocks_in file ≡ Ok blocks) × (file ≡ at_rest blocks)

-- the same stands in both files
abbrev pub StandsAs : List ℕ → List ℕ → Type 0
StandsAs old file = standing_in file ≡ standing_in old
