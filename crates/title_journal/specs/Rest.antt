-- A plant's file at rest, what stands there, and what a block more makes of it.
use Rattle.std.specs.Prelude.{◌≡◌, ◌≢◌, ◌⊎◌, ◌<◌, ◌^◌, ℕ, List, [], ◌∷◌, ◌++◌, length, drop, map, Bool, false, Result, Ok, Err}
use Rattle.std.specs.{Prelude.{if◌then◌else◌}, List.{AllByRecursion}, Str.{bytes_eq}}
use Rattle.title_disk.specs.Crashes.{Only}
use Rattle.title_journal.specs.declared.blocks.{Blocks.{Blocks}, Tail.{Tail, TheVariants.{Closed, Torn}}}
use Rattle.title_journal.specs.Blocks.{front, blocks_in, closed_gate, open_gate, IsBlock}

-- what doesn't count: at most one byte, or bytes behind a gate that isn't open
abbrev pub IsTail : List ℕ → Type 0
IsTail [] = Unit {0}
IsTail (byte ∷ []) = Unit {0}
IsTail (gate ∷ byte ∷ bytes) = gate ≢ open_gate

-- a file is the head, blocks that count, and a tail
pub record Stands (file : List ℕ) (blocks : List (List ℕ)) : Type 0 where
  pub tail : List ℕ
  pub parts : file ≡ front blocks ++ tail
  pub whole : AllByRecursion IsBlock blocks
  pub ends : IsTail tail

-- blocks, and a closed gate as the last byte
abbrev pub at_rest : List (List ℕ) → List ℕ
at_rest blocks = front blocks ++ closed_gate ∷ []

-- The file is at rest, and on the disk: the blocks that stand there, and a closed gate at this offset.
pub record IsAtRest {D : Type 0} (seen : D → List ℕ) (may_leave : D → List ℕ → Type 0) (has_failed : D
    → Bool) (disk : D) (gate : ℕ) : Type 0 where
  pub blocks : List (List ℕ)
  pub stand : blocks_in (seen disk) ≡ Ok blocks
  pub whole : AllByRecursion IsBlock blocks
  pub file : seen disk ≡ at_rest blocks
  pub offset : gate ≡ length (front blocks)
  pub fits : length (seen disk) < 2 ^ 63
  pub durable : Only (seen disk) (may_leave disk)
  pub works : has_failed disk ≡ false

-- what lies from a gate on
abbrev pub tail_of : List ℕ → Tail
tail_of bytes = if bytes_eq bytes (closed_gate ∷ []) then Closed else Torn (length bytes)

-- the texts of the blocks that were read
abbrev pub texts_of : Blocks → List (List ℕ)
texts_of found = map (λ text. text.items) found.texts.items

-- these blocks were read from this file
pub record IsReadFrom (file : List ℕ) (found : Blocks) : Type 0 where
  pub stand : blocks_in file ≡ Ok (texts_of found)
  pub whole : AllByRecursion IsBlock (texts_of found)
  pub offset : found.gate.offset ≡ length (front (texts_of found))
  pub front_is : file ≡ front (texts_of found) ++ drop found.gate.offset file
  pub tail : found.tail ≡ tail_of (drop found.gate.offset file)
  pub ends : IsTail (drop found.gate.offset file)

-- what stands with one block more
abbrev pub with_block : List ℕ → Result (List (List ℕ)) ℕ → Result (List (List ℕ)) ℕ
with_block block (Ok blocks) = Ok (blocks ++ block ∷ [])
with_block block (Err row) = Err row

-- the same blocks stand in both files
abbrev pub StandsAlike : List ℕ → List ℕ → Type 0
StandsAlike old file = blocks_in file ≡ blocks_in old

-- what stood stands, with the block or without it
abbrev pub IsBeforeOrAfter : List ℕ → List ℕ → List ℕ → Type 0
IsBeforeOrAfter old block file = (blocks_in file ≡ blocks_in old) ⊎ (blocks_in file ≡ with_block block (blocks_in old))
