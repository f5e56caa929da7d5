-- What the rows of a block come to, one after another.
use Rattle.std.specs.{Prelude.{ℕ, ◌+◌, ◌==◌, ◌&&◌, ◌||◌, cond, is_none, List, [], ◌∷◌, ◌++◌, codes, length, nat_le, nat_lt}, Fmt.{decimal}}
use Rattle.std.specs.{Prelude.{Option, Some, None, Result, Ok, Err, Bool}, List.{list_any}, Str.{bytes_eq}}
use Rattle.title_land.specs.declared.{survey.Township.{Township}, tract.Land.{Land}}
use Rattle.title_aliquot.specs.declared.fault.DescFault.{DescFault}
use Rattle.title_instrument.specs.declared.instrument.Instrument.{Instrument}
use Rattle.title_chain.specs.{declared.{ask.Step.{Step}, record.Record.{Record}}, Alone.{most_parties}}
use Rattle.title_trace.specs.Due.{most_steps}
use Rattle.title_plan.specs.{declared.row.{Act.{Act}, Row.{Row}}, Fields.{given}, Lands.{land_in, said_township}, Plans.{numbered}}
use Rattle.title_plan.specs.Townships.{is_refused}
use Rattle.title_plan.specs.declared.row.Act.TheVariants as act
use Rattle.title_plan.specs.declared.row.Row.TheVariants as row
use Rattle.title_standing.specs.Records.{posted_step}
use Rattle.title_spelling.specs.Lands.{kept_land_in}
use Rattle.title_daybook.specs.{Lines.{row_said}, Standing.{Standing}}

-- between two rows: what stands, and the transaction that has begun, with what it has posted so far
pub record Progress : Type 0 where
  pub stands : Standing
  pub begun : Option Record

-- nobody's transaction has begun
abbrev pub between : Standing → Progress
between stands = record { stands = stands; begun = None }

-- ---- declarations, of what isn't there yet, and not more than there may be

abbrev pub with_township : Standing → Township → Option Progress
with_township s t =
    cond (is_refused s.townships t) None
    (Some (between (record { townships = s.townships ++ t ∷ []; names = s.names; records = s.records })))

abbrev pub after_township : Standing → Result Land DescFault → Option Progress
after_township s said = given (said_township said) (with_township s)

abbrev pub after_party : Standing → List ℕ → Option Progress
after_party s name =
    cond (nat_le most_parties (length s.names) || list_any (bytes_eq name) s.names) None
    (Some (between (record { townships = s.townships; names = s.names ++ name ∷ []; records = s.records })))

-- ---- transactions

-- one record more
abbrev pub with_record : Standing → Record → Progress
with_record s r = between (record { townships = s.townships; names = s.names; records = r ∷ s.records })

-- an examiner begins, nobody else being inside
abbrev pub after_begin : Progress → ℕ → Option Progress
after_begin p e = cond (is_none p.begun) (Some (record { stands = p.stands; begun = Some (record { examiner = e; steps = [] }) })) None

-- the examiner that began commits: what it posted is a record
abbrev pub commits : Standing → Option Record → ℕ → Option Progress
commits s None e = None
commits s (Some r) e = cond (r.examiner == e) (Some (with_record s r)) None

-- an examiner posts: outside a transaction that is a record of its own; inside one it is its examiner, whose posts aren't too many
abbrev pub inside : Record → ℕ → Step → Option Record
inside r e step =
    cond (r.examiner == e && nat_lt (length r.steps) most_steps) (Some (record {
      examiner = r.examiner;
      steps = r.steps ++ step ∷
          [];
    })) None

abbrev pub posts : Standing → Option Record → ℕ → Step → Option Progress
posts s None e step = Some (with_record s (record { examiner = e; steps = step ∷ [] }))
posts s (Some r) e step = given (inside r e step) (λ longer. Some (record { stands = s; begun = Some longer }))

-- the land that a text says
abbrev pub said_land : Result Land DescFault → Option Land
said_land (Ok l) = Some l
said_land (Err why) = None

-- an examiner's post of an instrument between declared parties, in a land that its text says
abbrev pub after_post : Progress → ℕ → ℕ → Option (Instrument ℕ) → Option Land → Option Progress
after_post p e doc (Some instrument) (Some l) =
    posts p.stands p.begun e (posted_step (record { doc = doc; tract = l; instrument = instrument }))
after_post p e doc _ _ = None

-- what an examiner does; reads and aborts aren't kept
abbrev pub after_act : Progress → ℕ → Act (List ℕ) → Option Progress
after_act p e act.Begin = after_begin p e
after_act p e act.Commit = commits p.stands p.begun e
after_act p e (act.Post doc instrument text) =
    after_post p e doc (numbered p.stands.names instrument) (said_land (kept_land_in text))
after_act p e _ = None

-- ---- rows

-- a declaration stands only between transactions
abbrev pub declares : Progress → Option Progress → Option Progress
declares p after = cond (is_none p.begun) after None

-- after a row that says this; none where it may not stand there
abbrev pub after_said : Progress → Row (List ℕ) → Option Progress
after_said p (row.Township text) = declares p (after_township p.stands (land_in text))
after_said p (row.Party name) = declares p (after_party p.stands name)
after_said p (row.Step e a) = after_act p e a

-- after a row in front of the last one of its block
abbrev pub after_kept_row : Progress → List ℕ → Option Progress
after_kept_row p line = given (row_said line) (after_said p)

-- the last row of a block, `end,N`: nobody is inside, and there are so many records
abbrev pub is_end : Progress → List ℕ → Bool
is_end p line = is_none p.begun && bytes_eq line (codes "end," ++ decimal (length p.stands.records))

abbrev pub after_last_row : Progress → List ℕ → Option Progress
after_last_row p line = cond (is_end p line) (Some p) None

-- goes on where the n-th row may stand, and else that row is at fault
abbrev pub going_on : ℕ → Option Progress → (Progress → Result Progress ℕ) → Result Progress ℕ
going_on n None more = Err n
going_on n (Some after) more = more after

-- after the rows of a block, of which the first is the n-th of the file; or the first row at fault
abbrev pub after_rows : ℕ → Progress → List (List ℕ) → Result Progress ℕ
after_rows n p [] = Err n
after_rows n p (line ∷ []) = going_on n (after_last_row p line) (λ after. Ok after)
after_rows n p (line ∷ next ∷ lines) = going_on n (after_kept_row p line) (λ after. after_rows (n + 1) after (next ∷ lines))
