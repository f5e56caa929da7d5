-- What a beginning of a plant's file stands for.
use Rattle.std.specs.Prelude.{◌≡◌, ◌⊎◌, ℕ, suc, ◌+◌, ◌≤◌, ◌<◌, List, length, take, Result, Ok, IsErr}
use Rattle.title_journal.specs.Blocks.{front}

-- the offset of the gate behind this many blocks
abbrev pub gate_behind : List (List ℕ) → ℕ → ℕ
gate_behind blocks number = length (front (take number blocks))

-- The first n bytes of a file with these blocks, by what stands in them: whole blocks, and at most the gate of the next; or they end inside
-- the next one, and are refused.
pub record BeginsAs (blocks : List (List ℕ)) (n : ℕ) (stands : Result (List (List ℕ)) ℕ) : Type 0 where
  pub number : ℕ
  pub within : number ≤ length blocks
  pub reached : gate_behind blocks number ≤ n
  pub whole_or_refused :
      ((stands ≡ Ok (take number blocks)) × ((n ≤ gate_behind blocks number + 1) ⊎ (number ≡ length blocks)))
      ⊎ (IsErr stands × (number < length blocks) × (gate_behind blocks number + 1 < n) × (n < gate_behind blocks (suc number)))
