-- The law of settled outcomes.
use Rattle.std.specs.Prelude.{◌≡◌, List, length}
use Rattle.title_chain.specs.declared.record.Record.{Record}
use Rattle.title_settle.specs.{declared.outcome.Outcome.{Outcome}, Settling.{IsSettled}}

-- outcomes that are the records, each once, are as many as the records
abbrev pub AsMany : Type 0
AsMany = (records : List Record) (outcomes : List Outcome) → IsSettled records outcomes → length outcomes ≡ length records
