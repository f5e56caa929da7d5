-- The gates of a plant's file.
use Rattle.std.specs.Prelude.{◌≡◌, ◌≤◌, ℕ, List, [], ◌∷◌, ◌++◌, length, drop, Result, Ok, Err, if◌then◌else◌, nat_eq, IfSome, IfNone}
use Rattle.std.specs.List.{starts_with, flat_map}
use Rattle.title_journal.specs.Blocks.{AtGate, blocks_from, counted}
use Rattle.title_file.specs.declared.gates.Gates.{Gates}

-- the blocks that stand in a file with this first row, as they do in a plant's file; or the row at which there is a fault
abbrev pub blocks_behind : List ℕ → List ℕ → Result (List (List ℕ)) ℕ
blocks_behind head file = if starts_with nat_eq file head then blocks_from 2 AtGate (drop (length head) file) else Err 1

-- a first row, and blocks that count
abbrev pub front_of : List ℕ → List (List ℕ) → List ℕ
front_of head blocks = head ++ flat_map counted blocks

-- The gates of a file: the last block's, and the one behind it.
pub record AreGates (head file : List ℕ) (gates : Gates) : Type 0 where
  pub blocks : List (List ℕ)
  pub stand : blocks_behind head file ≡ Ok blocks
  pub opened : IfSome gates.opened (λ offset. (earlier : List (List ℕ)) × (last : List ℕ)
      × (blocks ≡ earlier ++ last ∷ []) × (offset ≡ length (front_of head earlier)))
  pub unopened : IfNone gates.opened (blocks ≡ [])
  pub end : gates.end ≡ length (front_of head blocks)
  pub within : gates.end ≤ length file
