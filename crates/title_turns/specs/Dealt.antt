-- A transaction that is still to be made, as definitions speak of it.
use Rattle.std.specs.Prelude.{ℕ, Bool, List, map}
use Rattle.title_chain.specs.declared.ask.Ask.{Ask}
use Rattle.title_turns.specs.declared.script.{Script.{Script}, Transaction.{Transaction}}

-- a transaction: its asks in order, and whether it is committed
pub record Dealt : Type 0 where
  pub asks : List Ask
  pub commits : Bool

-- a transaction of a worker's script
abbrev pub dealt_in : Transaction → Dealt
dealt_in t = record { asks = t.asks.items; commits = t.commits }

-- the examiner of a worker's script and its transactions
abbrev pub told_by : Script → ℕ × List Dealt
told_by script = (script.examiner, map dealt_in script.transactions.items)
