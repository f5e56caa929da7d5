-- Where a reading of a line stands, as the machine of csv has it.
use Rattle.std.specs.Prelude.{ℕ, List, drop}
use Rattle.csv.specs.{Machine.{Read}, Records.{fields_of}, declared.parser.{State.{State}, Action.{Action}}}
use Rattle.csv.specs.declared.parser.State.TheVariants as st
use Rattle.csv.specs.declared.parser.Action.TheVariants as action
use Rattle.title_counter.specs.declared.reading.{Position.{Position}, Act.{Act}, Taken.{Taken}}
use Rattle.title_counter.specs.declared.reading.Position.TheVariants as position
use Rattle.title_counter.specs.declared.reading.Act.TheVariants as act

abbrev pub state_of : Position → State
state_of position.RecordStart = st.StartRecord
state_of position.FieldStart = st.StartField
state_of position.Plain = st.InField
state_of position.Quoted = st.InQuoted
state_of position.QuoteEnd = st.AfterQuote
state_of position.AfterReturn = st.AfterCr

abbrev pub action_of : Act → Action
action_of act.Skip = action.Skip
action_of act.Copy = action.Copy
action_of act.EndField = action.EndField
action_of act.EndRecord = action.EndRecord

-- a record that was taken from a text: its fields, the state behind it and the text behind it
abbrev pub read_in : List ℕ → Taken → Read
read_in text taken = (fields_of taken.raw, state_of taken.position, drop taken.next text)
