-- What a plant's file stands for: blocks of whole rows, each behind a gate of one byte.
use Rattle.std.specs.Prelude.{◌≡◌, ◌≢◌, ℕ, ◌+◌, Bool, true, false, List, [], ◌∷◌, ◌++◌, length, drop, Result, Ok, Err, if◌then◌else◌}
use Rattle.std.specs.{Prelude.{◌==◌, nat_eq, codes, count_by}, List.{starts_with, flat_map, AllByRecursion}}
use Rattle.title_disk.specs.declared.fault.DiskFault.{DiskFault}
use Rattle.title_disk.specs.declared.fault.DiskFault.TheVariants as disk
use Rattle.title_journal.specs.declared.fault.JournalFault.{JournalFault}
use Rattle.title_journal.specs.declared.fault.JournalFault.TheVariants as journal

abbrev pub line_feed : ℕ
line_feed = 10

-- `+`: the block behind it counts
abbrev pub open_gate : ℕ
open_gate = 43

-- `-`: what lies behind it doesn't
abbrev pub closed_gate : ℕ
closed_gate = 45

-- the first row of a file, with its line feed
abbrev pub head : List ℕ
head = codes "titleplant plant 1" ++ line_feed ∷ []

-- how many rows end in these bytes
abbrev pub rows_in : List ℕ → ℕ
rows_in bytes = count_by (λ byte. byte == line_feed) bytes

-- whether a row is the last one of its block
abbrev pub ends_block : List ℕ → Bool
ends_block row = starts_with nat_eq row (codes "end,")

-- ---- blocks

-- a row has no line feed of its own
abbrev pub IsRow : List ℕ → Type 0
IsRow row = AllByRecursion (λ byte. byte ≢ line_feed) row

-- rows, each with its line feed
abbrev pub lines : List (List ℕ) → List ℕ
lines rows = flat_map (λ row. row ++ line_feed ∷ []) rows

-- whole rows, of which the last alone begins with `end,`
pub record IsBlock (text : List ℕ) : Type 0 where
  pub rows : List (List ℕ)
  pub last : List ℕ
  pub text_is : text ≡ lines rows ++ (last ++ line_feed ∷ [])
  pub each : AllByRecursion (λ row. IsRow row × (ends_block row ≡ false)) rows
  pub last_row : IsRow last
  pub ends : ends_block last ≡ true

-- rows of which none begins with `end,`, and a beginning of another row
pub record IsUnfinished (text : List ℕ) : Type 0 where
  pub rows : List (List ℕ)
  pub start : List ℕ
  pub text_is : text ≡ lines rows ++ start
  pub each : AllByRecursion (λ row. IsRow row × (ends_block row ≡ false)) rows
  pub start_row : IsRow start

-- a block that counts: an open gate, which is a row of its own, and the block
abbrev pub counted : List ℕ → List ℕ
counted block = open_gate ∷ line_feed ∷ block

-- the head and blocks that count
abbrev pub front : List (List ℕ) → List ℕ
front blocks = head ++ flat_map counted blocks

-- ---- what stands

-- where a reader is: at a gate, or in a row of a block, with the rows before it and the bytes of it so far
pub data State : Type 0 where
  AtGate : State
  InRow : List ℕ → List ℕ → State

-- a block before those that follow
abbrev pub before_others : List ℕ → Result (List (List ℕ)) ℕ → Result (List (List ℕ)) ℕ
before_others block (Ok blocks) = Ok (block ∷ blocks)
before_others block (Err row) = Err row

-- The blocks that stand from a state on, or the number of the row at which the file is no plant. At a gate that isn't open, and
-- at an open one that is the last byte, nothing more stands.
abbrev pub blocks_from : ℕ → State → List ℕ → Result (List (List ℕ)) ℕ
blocks_from row AtGate [] = Ok []
blocks_from row AtGate (gate ∷ []) = Ok []
blocks_from row AtGate (gate ∷ feed ∷ bytes) =
    if gate == open_gate then (if feed == line_feed then blocks_from (row + 1) (InRow [] []) bytes else Err row) else Ok []
blocks_from row (InRow rows start) [] = Err row
blocks_from row (InRow rows start) (byte ∷ bytes) =
    if byte == line_feed then
    (if ends_block start then before_others (rows ++ (start ++ line_feed ∷ [])) (blocks_from (row + 1) AtGate bytes)
    else blocks_from (row + 1) (InRow (rows ++ (start ++ line_feed ∷ [])) []) bytes)
    else blocks_from row (InRow rows (start ++ byte ∷ [])) bytes

-- the blocks that stand in a file, or the row at which it is no plant
abbrev pub blocks_in : List ℕ → Result (List (List ℕ)) ℕ
blocks_in file = if starts_with nat_eq file head then blocks_from 2 AtGate (drop (length head) file) else Err 1

-- a reading is stopped by what stops the disk's
abbrev pub fault_of : DiskFault → JournalFault
fault_of disk.Memory = journal.Memory
fault_of disk.Failed = journal.Failed
