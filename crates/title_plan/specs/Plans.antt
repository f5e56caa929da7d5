-- What a script asks for, or the first fault among its rows.
use Rattle.std.specs.Prelude.{ℕ, ◌+◌, ◌==◌, ◌&&◌, not, cond, Bool, true, false, List, [], ◌∷◌, ◌++◌, filter, length, nat_le, nat_lt}
use Rattle.std.specs.{Prelude.{Option, Some, None, Result, Ok, Err}, List.{list_all, list_any, position}, Str.{bytes_eq, is_utf8}}
use Rattle.csv.specs.Reading.{default_config, records, strip_bom}
use Rattle.title_land.specs.declared.{survey.Township.{Township}, tract.Land.{Land}}
use Rattle.title_aliquot.specs.declared.fault.DescFault.{DescFault}
use Rattle.title_plan.specs.{Lands.{land_in, said_township}, Townships.{is_refused}, declared.fault.ScriptFault.{ScriptFault}}
use Rattle.title_plan.specs.declared.line.{Line.{Line}, Schedule.{Schedule}}
use Rattle.title_plan.specs.{declared.row.{Act.{Act}, Row.{Row}}, Asked.{Asked, nothing_asked}, Fields.{given}, Limits.{most_rows}}
use Rattle.title_plan.specs.Rows.{row_in}
use Rattle.title_instrument.specs.{declared.instrument.Instrument.{Instrument}, Parties.{between, grantor_of, grantee_of}}
use Rattle.title_chain.specs.{declared.ask.Ask.{Ask}, Alone.{most_parties}}
use Rattle.title_chain.specs.declared.ask.Ask.TheVariants as ask
use Rattle.title_trace.specs.declared.call.Request.TheVariants as request
use Rattle.title_plan.specs.declared.fault.ScriptFault.TheVariants as fault
use Rattle.title_plan.specs.declared.line.Line.TheVariants as line
use Rattle.title_plan.specs.declared.line.Schedule.TheVariants as schedule
use Rattle.title_plan.specs.declared.row.Act.TheVariants as act
use Rattle.title_plan.specs.declared.row.Row.TheVariants as row

-- ---- declarations

-- the n-th row declares a township: at fault where it is declared already, where as many are as may be, or after the first step
abbrev pub with_township : ℕ → Asked → Township → Result Asked ScriptFault
with_township n asked t =
    cond (is_refused asked.townships t) (Err (fault.Row n))
    (cond (length asked.lines == 0)
    (Ok (record { townships = asked.townships ++ t ∷ []; names = asked.names; lines = asked.lines; inside = asked.inside }))
    (Err (fault.Order n)))

-- the n-th row declares a township, if there is one
abbrev pub with_said : ℕ → Asked → Option Township → Result Asked ScriptFault
with_said n asked None = Err (fault.Row n)
with_said n asked (Some t) = with_township n asked t

-- the n-th row declares what a text describes: at fault where that is no whole township
abbrev pub after_township : ℕ → Asked → Result Land DescFault → Result Asked ScriptFault
after_township n asked said = with_said n asked (said_township said)

-- the n-th row declares a party: at fault where as many have a number as may have one, after the first step, or where the
-- name is there already
abbrev pub with_party : ℕ → Asked → List ℕ → Result Asked ScriptFault
with_party n asked name =
    cond (nat_le most_parties (length asked.names)) (Err (fault.Row n))
    (cond (length asked.lines == 0)
    (cond (list_any (bytes_eq name) asked.names) (Err (fault.Party n))
    (Ok (record { townships = asked.townships; names = asked.names ++ name ∷ []; lines = asked.lines; inside = asked.inside })))
    (Err (fault.Order n)))

-- ---- steps

-- whether an examiner's transaction is open
abbrev pub is_inside : List ℕ → ℕ → Bool
is_inside inside e = list_any (λ f. f == e) inside

-- whether another examiner's transaction is open
abbrev pub is_other_inside : List ℕ → ℕ → Bool
is_other_inside inside e = list_any (λ f. not (f == e)) inside

-- the office has no such examiner: its examiners are numbered from 1 to their number
abbrev pub is_beyond : Schedule → ℕ → Bool
is_beyond (schedule.Office k) e = nat_lt k e
is_beyond _ e = false

-- the act is a begin
abbrev pub is_begin : Act (List ℕ) → Bool
is_begin act.Begin = true
is_begin _ = false

-- a step is out of its turn: where transactions come one after another, inside another examiner's; in an office, a begin inside
-- the examiner's own, and any other step outside it
abbrev pub is_out_of_turn : Schedule → List ℕ → ℕ → Act (List ℕ) → Bool
is_out_of_turn schedule.Interleaved inside e a = false
is_out_of_turn schedule.Serial inside e a = is_other_inside inside e
is_out_of_turn (schedule.Office k) inside e a = cond (is_begin a) (is_inside inside e) (not (is_inside inside e))

-- in a script of transactions one after another, a step outside them is a transaction of its own
abbrev pub stands_alone : Schedule → List ℕ → Bool
stands_alone schedule.Serial [] = true
stands_alone _ _ = false

-- the examiners whose transactions are open after one's has ended
abbrev pub with_ended : List ℕ → ℕ → List ℕ
with_ended inside e = filter (λ f. not (f == e)) inside

-- the examiners whose transactions are open after one's has begun; where transactions are interleaved none is kept
abbrev pub with_begun : Schedule → List ℕ → ℕ → List ℕ
with_begun schedule.Interleaved inside e = inside
with_begun _ inside e = with_ended inside e ++ e ∷ []

-- one step more, after which the transactions of these examiners are open
abbrev pub with_line : Asked → Line → List ℕ → Asked
with_line asked added inside =
    record { townships = asked.townships; names = asked.names; lines = asked.lines ++ added ∷ []; inside = inside }

-- the step of an examiner: it asks, alone or not, or its description has a fault
abbrev pub line_of : (alone : Bool) → ℕ → Result Ask DescFault → Line
line_of false e (Ok a) = line.Asks (request.Step e a)
line_of true e (Ok a) = line.Alone e a
line_of alone e (Err why) = line.Described e why

-- what is asked of the land that a text describes
abbrev pub asked_of : (Land → Ask) → Result Land DescFault → Result Ask DescFault
asked_of asks (Ok l) = Ok (asks l)
asked_of asks (Err why) = Err why

-- after an examiner's ask in the n-th row; in an office a description that is none is a fault of the row
abbrev pub after_asked : Schedule → ℕ → Asked → ℕ → Result Ask DescFault → Result Asked ScriptFault
after_asked (schedule.Office k) n asked e (Err why) = Err (fault.Row n)
after_asked sched n asked e asks = Ok (with_line asked (line_of (stands_alone sched asked.inside) e asks) asked.inside)

-- after a step of an examiner with this text
abbrev pub after_step : Schedule → ℕ → Asked → ℕ → (Land → Ask) → List ℕ → Result Asked ScriptFault
after_step sched n asked e asks text = after_asked sched n asked e (asked_of asks (land_in text))

-- the number of a party
abbrev pub number_of : List (List ℕ) → List ℕ → Option ℕ
number_of names name = position (bytes_eq name) names

-- an instrument between parties by their numbers, where both are declared
abbrev pub numbered : List (List ℕ) → Instrument (List ℕ) → Option (Instrument ℕ)
numbered names instrument =
    given (number_of names (grantor_of instrument)) (λ giver.
    given (number_of names (grantee_of instrument)) (λ taker.
    Some (between instrument giver taker)))

-- a post under a document's number
abbrev pub post : ℕ → Instrument ℕ → Land → Ask
post doc instrument l = ask.Post (record { doc = doc; tract = l; instrument = instrument })

-- after a post; at fault where one of its parties isn't declared
abbrev pub after_post : Schedule → ℕ → Asked → ℕ → ℕ → Option (Instrument ℕ) → List ℕ → Result Asked ScriptFault
after_post sched n asked e doc None text = Err (fault.Party n)
after_post sched n asked e doc (Some instrument) text = after_step sched n asked e (post doc instrument) text

-- after what an examiner does in its turn
abbrev pub after_act : Schedule → ℕ → Asked → ℕ → Act (List ℕ) → Result Asked ScriptFault
after_act sched n asked e act.Begin = Ok (with_line asked (line.Asks (request.Begin e)) (with_begun sched asked.inside e))
after_act sched n asked e act.Commit = Ok (with_line asked (line.Asks (request.Commit e)) (with_ended asked.inside e))
after_act sched n asked e act.Abort = Ok (with_line asked (line.Asks (request.Abort e)) (with_ended asked.inside e))
after_act sched n asked e (act.Sheet text) = after_step sched n asked e ask.Sheet text
after_act sched n asked e (act.Chain text) = after_step sched n asked e ask.Chain text
after_act sched n asked e (act.Post doc instrument text) = after_post sched n asked e doc (numbered asked.names instrument) text

-- ---- rows

-- the n-th row is a step; one of no examiner of the office is at fault, and then one out of its turn
abbrev pub after_step_row : Schedule → ℕ → Asked → ℕ → Act (List ℕ) → Result Asked ScriptFault
after_step_row sched n asked e a =
    cond (is_beyond sched e) (Err (fault.Row n))
    (cond (is_out_of_turn sched asked.inside e a) (Err (fault.Order n)) (after_act sched n asked e a))

-- the n-th row says this
abbrev pub after_said : Schedule → ℕ → Asked → Row (List ℕ) → Result Asked ScriptFault
after_said sched n asked (row.Township text) = after_township n asked (land_in text)
after_said sched n asked (row.Party name) = with_party n asked name
after_said sched n asked (row.Step e a) = after_step_row sched n asked e a

-- what the n-th row says: it is one of so many, its fields are UTF-8, and they say something
abbrev pub understood : ℕ → List (List ℕ) → Option (Row (List ℕ))
understood n fields = cond (nat_le n most_rows && list_all is_utf8 fields) (row_in fields) None

abbrev pub after_understood : Schedule → ℕ → Asked → Option (Row (List ℕ)) → Result Asked ScriptFault
after_understood sched n asked None = Err (fault.Row n)
after_understood sched n asked (Some said) = after_said sched n asked said

-- after the n-th row, which has these fields: one that is not understood is at fault
abbrev pub after_row : Schedule → ℕ → Asked → List (List ℕ) → Result Asked ScriptFault
after_row sched n asked fields = after_understood sched n asked (understood n fields)

-- the first fault stands, whatever rows follow
abbrev pub going_on : (Asked → Result Asked ScriptFault) → Result Asked ScriptFault → Result Asked ScriptFault
going_on more (Ok asked) = more asked
going_on more (Err e) = Err e

-- after these rows, the first of which is the n-th
abbrev pub after_rows : Schedule → ℕ → Asked → List (List (List ℕ)) → Result Asked ScriptFault
after_rows sched n asked [] = Ok asked
after_rows sched n asked (row ∷ rows) = going_on (λ after. after_rows sched (n + 1) after rows) (after_row sched n asked row)

-- the rows of a script, each a list of fields: a byte order mark at the front is passed over, and a blank line is no row
abbrev pub rows_in : List ℕ → List (List (List ℕ))
rows_in bytes = records default_config (strip_bom bytes)

-- what a script asks for, or its first fault
abbrev pub script_of : Schedule → List ℕ → Result Asked ScriptFault
script_of sched bytes = after_rows sched 1 nothing_asked (rows_in bytes)
