-- Chains: the posted instruments of a tract. Lists of steps and of records here have the newest first.
use Rattle.std.specs.Prelude.{suc, List, [], ◌∷◌, ◌++◌, length, reverse}
use Rattle.title_land.specs.declared.tract.Land.{Land}
use Rattle.title_chain.specs.{declared.{ask.{Entry.{Entry}, Step.{Step}}, record.Record.{Record}}, StepEntries.{step_entries}}

-- the entries that these records give, in order, each with its record's number from 1
abbrev pub record_entries : Land → List Record → List Entry
record_entries land [] = []
record_entries land (r ∷ older) = record_entries land older ++ step_entries (suc (length older)) land (reverse r.steps)

-- the chain of a tract: the records' entries, then those of the transaction's own steps with place 0
abbrev pub chain_of : List Record → List Step → Land → List Entry
chain_of records own land = record_entries land records ++ step_entries 0 land own
