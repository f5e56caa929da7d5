-- What a script posts on top of what stands can be written: its examiners, documents, shares and parties are such as a plant's file has,
-- and the names are names, each of one party.
use Rattle.std.{proofs.Common.{◌≡◌, ◌+◌, ◌&&◌, ◌||◌, ◌==◌, ℕ, Bool, true, false, cond, List, [], ◌∷◌, ◌++◌, length}, specs.Prelude.{nat_le}}
use Rattle.std.proofs.{Common.{Option, Some, None, Result, Ok, Err, IfOk, refl, subst, arith, ◌≤◌, leb-false}, lemmas.Bool.{and_parts}}
use Rattle.std.{specs.{List.{AllByRecursion, list_all, list_any}, Str.{bytes_eq, is_utf8}}, proofs.lemmas.List.{length-append}}
use Rattle.title_land.specs.{Depth.{depth}, declared.tract.Land.{Land}, Lands.{IsLand}, Survey.{same_township}}
use Rattle.title_land.specs.declared.tract.Land.TheVariants as land
use Rattle.title_aliquot.specs.declared.fault.DescFault.{DescFault}
use Rattle.title_instrument.specs.declared.instrument.Instrument.{Instrument}
use Rattle.title_chain.specs.{Alone.{most_parties}, declared.ask.{Ask.{Ask}, Terms.{Terms}}}
use Rattle.title_chain.specs.declared.ask.Ask.TheVariants as ask
use Rattle.title_trace.specs.Due.{most_townships}
use Rattle.title_trace.specs.declared.call.Request.TheVariants as request
use Rattle.title_plan.specs.declared.{fault.ScriptFault.{ScriptFault}, line.{Line.{Line}, Schedule.{Schedule}}, row.{Act.{Act}, Row.{Row}}}
use Rattle.title_plan.specs.{Asked.{Asked}, Fields.{is_name}, Lands.{land_in}, Limits.{most_rows}, Plans.{with_line, with_party}}
use Rattle.title_plan.specs.Onto.{Before, after_row_onto, after_rows_onto, after_said_onto, after_understood_onto, asked_on}
use Rattle.title_plan.specs.{Onto.{is_party_of, is_township_of, script_onto}, Rows.{row_in}}
use Rattle.title_plan.specs.Plans.{after_act, after_asked, after_post, after_township, asked_of, going_on, is_beyond}
use Rattle.title_plan.specs.Plans.{is_out_of_turn, line_of, numbered, post, rows_in, stands_alone, understood}
use Rattle.title_plan.specs.declared.fault.ScriptFault.TheVariants as fault
use Rattle.title_plan.specs.declared.line.Line.TheVariants as line
use Rattle.title_plan.specs.declared.line.Schedule.TheVariants as schedule
use Rattle.title_plan.specs.declared.row.Act.TheVariants as act
use Rattle.title_plan.specs.declared.row.Row.TheVariants as row
use Rattle.title_spelling.specs.{Lands.{has_a_cell}, Posts.{IsExaminer, IsPost}, Rows.{are_names}}
use Rattle.title_lasting.specs.Laws.CallsMore.{FineLine}
use Rattle.title_lasting.specs.Laws.FineRows.{IsFineAct, IsFinePost, numbered_is, IsSaid, LandsHaveCells, names_pushed, row_said}
use Rattle.title_lasting.specs.Laws.FineRows.{texts_pushed, where_true}
use Rattle.title_lasting.specs.Laws.FineTraces.{all_joined}

-- what is asked can be written, if it is a post
abbrev pub FineAsk : List (List ℕ) → ℕ → Ask → Type 0
FineAsk names e (ask.Post p) = IsPost names e p
FineAsk names e _ = Unit {0}

abbrev pub FineStep : List (List ℕ) → Line → Type 0
FineStep names l = FineLine IsExaminer (FineAsk names) l

-- what rows have declared and asked for
pub record IsFine (asked : Asked) : Type 0 where
  pub names : are_names asked.names ≡ true
  pub texts : list_all is_utf8 asked.names ≡ true
  pub few : length asked.names ≤ most_parties
  pub lines : AllByRecursion (FineStep asked.names) asked.lines

-- ---- more names

pub post_wider : (names more : List (List ℕ)) (e : ℕ) (p : Terms) → IsPost names e p → IsPost (names ++ more) e p
post_wider names more e p h = record {
  examiner = h.examiner;
  some_document = h.some_document;
  last_document = h.last_document;
  grantor = omega (arith, h.grantor, length-append names more);
  grantee = omega (arith, h.grantee, length-append names more);
  estates = h.estates;
  shares = h.shares;
  sized = h.sized;
  cell = h.cell;
}

pub ask_wider : (names more : List (List ℕ)) (e : ℕ) (a : Ask) → FineAsk names e a → FineAsk (names ++ more) e a
ask_wider names more e (ask.Sheet t) h = tt
ask_wider names more e (ask.Chain t) h = tt
ask_wider names more e (ask.Post p) h = post_wider names more e p h

step_wider : (names more : List (List ℕ)) (l : Line) → FineStep names l → FineStep (names ++ more) l
step_wider names more (line.Asks (request.Begin e)) h = h
step_wider names more (line.Asks (request.Step e a)) h = (h.0, ask_wider names more e a h.1)
step_wider names more (line.Asks (request.Commit e)) h = h
step_wider names more (line.Asks (request.Abort e)) h = h
step_wider names more (line.Alone e a) h = (h.0, ask_wider names more e a h.1)
step_wider names more (line.Described e why) h = tt

steps_wider : (names more : List (List ℕ)) (lines : List Line) → AllByRecursion (FineStep names) lines
    → AllByRecursion (FineStep (names ++ more)) lines
steps_wider names more [] h = tt
steps_wider names more (l ∷ lines) h = (step_wider names more l h.0, steps_wider names more lines h.1)

-- ---- rows

abbrev Fine : Result Asked ScriptFault → Type 0
Fine r = IfOk r IsFine

-- a fault or else what holds
fault_or : (b : Bool) (e : ScriptFault) (r : Result Asked ScriptFault) → Fine r → Fine (cond b (Err e) r)
fault_or true e r h = tt
fault_or false e r h = h

or_fault : (b : Bool) (e : ScriptFault) (r : Result Asked ScriptFault) → Fine r → Fine (cond b r (Err e))
or_fault true e r h = h
or_fault false e r h = tt

passed_or : (asked : Asked) (b : Bool) (r : Result Asked ScriptFault) → IsFine asked → Fine r → Fine (cond b (Ok asked) r)
passed_or asked true r fine h = fine
passed_or asked false r fine h = h

-- a test that decides between a fault and what holds where it fails
unless : (b : Bool) (e : ScriptFault) (r : Result Asked ScriptFault) → (b ≡ false → Fine r) → Fine (cond b (Err e) r)
unless true e r h = tt
unless false e r h = h refl

township_fine : (n : ℕ) (asked : Asked) (said : Result Land DescFault) → IsFine asked → Fine (after_township n asked said)
township_fine n asked (Ok (land.Township t)) fine =
    fault_or (nat_le most_townships (length asked.townships) || list_any (λ other. same_township other t) asked.townships)
    (fault.Row n) _ (or_fault (length asked.lines == 0) (fault.Order n) _ (record {
      names = fine.names;
      texts = fine.texts;
      few = fine.few;
      lines = fine.lines;
    }))
township_fine n asked _ fine = tt

party_fine : (n : ℕ) (asked : Asked) (name : List ℕ) → (is_name name ≡ true) × (is_utf8 name ≡ true) → IsFine asked
    → Fine (with_party n asked name)
party_fine n asked name is fine =
    unless (nat_le most_parties (length asked.names)) (fault.Row n) _ (λ room.
    or_fault (length asked.lines == 0) (fault.Order n) _
    (unless (list_any (bytes_eq name) asked.names) (fault.Party n) _ (λ none. record {
      names = names_pushed asked.names name fine.names is.0 none;
      texts = texts_pushed asked.names name fine.texts is.1;
      few = omega (arith, leb-false most_parties (length asked.names) room, length-append asked.names (name ∷ []));
      lines = steps_wider asked.names (name ∷ []) asked.lines fine.lines;
    })))

line_fine : (asked : Asked) (l : Line) (inside : List ℕ) → IsFine asked → FineStep asked.names l → IsFine (with_line asked l inside)
line_fine asked l inside fine step = record {
  names = fine.names;
  texts = fine.texts;
  few = fine.few;
  lines = all_joined (FineStep asked.names) asked.lines (l ∷ []) fine.lines (step, tt);
}

pub step_fine : (names : List (List ℕ)) (alone : Bool) (e : ℕ) (asks : Result Ask DescFault) → IsExaminer e
    → IfOk asks (FineAsk names e) → FineStep names (line_of alone e asks)
step_fine names false e (Ok a) examiner fine = (examiner, fine)
step_fine names true e (Ok a) examiner fine = (examiner, fine)
step_fine names false e (Err why) examiner fine = tt
step_fine names true e (Err why) examiner fine = tt

asked_fine : (sched : Schedule) (n : ℕ) (asked : Asked) (e : ℕ) (asks : Result Ask DescFault) → IsFine asked → IsExaminer e
    → IfOk asks (FineAsk asked.names e) → Fine (after_asked sched n asked e asks)
asked_fine schedule.Interleaved n asked e asks fine examiner step =
    line_fine asked _ asked.inside fine (step_fine asked.names (stands_alone schedule.Interleaved asked.inside) e asks examiner step)
asked_fine schedule.Serial n asked e asks fine examiner step =
    line_fine asked _ asked.inside fine (step_fine asked.names (stands_alone schedule.Serial asked.inside) e asks examiner step)
asked_fine (schedule.Office k) n asked e (Ok a) fine examiner step =
    line_fine asked _ asked.inside fine (step_fine asked.names (stands_alone (schedule.Office k) asked.inside) e (Ok a) examiner step)
asked_fine (schedule.Office k) n asked e (Err why) fine examiner step = tt

-- a read of what a text describes
pub sheet_asks : (names : List (List ℕ)) (e : ℕ) (said : Result Land DescFault) → IfOk (asked_of ask.Sheet said) (FineAsk names e)
sheet_asks names e (Ok l) = tt
sheet_asks names e (Err why) = tt

pub chain_asks : (names : List (List ℕ)) (e : ℕ) (said : Result Land DescFault) → IfOk (asked_of ask.Chain said) (FineAsk names e)
chain_asks names e (Ok l) = tt
chain_asks names e (Err why) = tt

module _ (lands : LandsHaveCells land_in) where
  pub post_asks : (names : List (List ℕ)) (e doc : ℕ) (instrument : Instrument ℕ) (text : List ℕ) (said : Result Land DescFault)
      → land_in text ≡ said → IsExaminer e → ((l : Land) → IsLand depth l × (has_a_cell l ≡ true)
      → IsPost names e (record { doc = doc; tract = l; instrument = instrument }))
      → IfOk (asked_of (post doc instrument) said) (FineAsk names e)
  post_asks names e doc instrument text (Ok l) is examiner posts = posts l (lands text l is)
  post_asks names e doc instrument text (Err why) is examiner posts = tt

  post_fine : (sched : Schedule) (n : ℕ) (asked : Asked) (e doc : ℕ) (instrument : Instrument (List ℕ)) (text : List ℕ)
      (found : Option (Instrument ℕ)) → numbered asked.names instrument ≡ found → IsFine asked → IsExaminer e
      → IsFinePost doc instrument → Fine (after_post sched n asked e doc found text)
  post_fine sched n asked e doc instrument text None is fine examiner act = tt
  post_fine sched n asked e doc instrument text (Some found) is fine examiner act =
      let known = numbered_is asked.names doc instrument found act is in
      asked_fine sched n asked e (asked_of (post doc found) (land_in text)) fine examiner
      (post_asks asked.names e doc found text (land_in text) refl examiner (λ l has. record {
        examiner = examiner;
        some_document = known.1.some_document;
        last_document = known.1.last_document;
        grantor = known.0.grantor;
        grantee = known.0.grantee;
        estates = known.1.estates;
        shares = known.1.shares;
        sized = has.0;
        cell = has.1;
      }))

  act_fine : (sched : Schedule) (n : ℕ) (asked : Asked) (e : ℕ) (a : Act (List ℕ)) → IsFine asked → IsExaminer e → IsFineAct a
      → Fine (after_act sched n asked e a)
  act_fine sched n asked e act.Begin fine examiner is = line_fine asked (line.Asks (request.Begin e)) _ fine examiner
  act_fine sched n asked e act.Commit fine examiner is = line_fine asked (line.Asks (request.Commit e)) _ fine examiner
  act_fine sched n asked e act.Abort fine examiner is = line_fine asked (line.Asks (request.Abort e)) _ fine examiner
  act_fine sched n asked e (act.Sheet text) fine examiner is =
      asked_fine sched n asked e (asked_of ask.Sheet (land_in text)) fine examiner (sheet_asks asked.names e (land_in text))
  act_fine sched n asked e (act.Chain text) fine examiner is =
      asked_fine sched n asked e (asked_of ask.Chain (land_in text)) fine examiner (chain_asks asked.names e (land_in text))
  act_fine sched n asked e (act.Post doc instrument text) fine examiner is =
      post_fine sched n asked e doc instrument text (numbered asked.names instrument) refl fine examiner is

  said_fine : (sched : Schedule) (before : Before) (n : ℕ) (asked : Asked) (said : Row (List ℕ)) → IsFine asked → IsSaid said
      → Fine (after_said_onto sched before n asked said)
  said_fine sched before n asked (row.Township text) fine is =
      passed_or asked (length asked.lines == 0 && is_township_of before (land_in text)) _ fine (township_fine n asked (land_in text) fine)
  said_fine sched before n asked (row.Party name) fine is =
      passed_or asked (length asked.lines == 0 && is_party_of before name) _ fine (party_fine n asked name is fine)
  said_fine sched before n asked (row.Step e a) fine is =
      fault_or (is_beyond sched e) (fault.Row n) _
      (fault_or (is_out_of_turn sched asked.inside e a) (fault.Order n) _ (act_fine sched n asked e a fine is.0 is.1))

  understood_fine : (sched : Schedule) (before : Before) (n : ℕ) (asked : Asked) (fields : List (List ℕ))
      (found : Option (Row (List ℕ))) → understood n fields ≡ found → IsFine asked → Fine (after_understood_onto sched before n asked found)
  understood_fine sched before n asked fields None is fine = tt
  understood_fine sched before n asked fields (Some said) is fine =
      said_fine sched before n asked said fine
      (let c = where_true (nat_le n most_rows && list_all is_utf8 fields) (row_in fields) said is in
      row_said fields said (and_parts (nat_le n most_rows) (list_all is_utf8 fields) c.0).1 c.1)

  then_fine : (f : Asked → Result Asked ScriptFault) (r : Result Asked ScriptFault) → Fine r
      → ((a : Asked) → IsFine a → Fine (f a)) → Fine (going_on f r)
  then_fine f (Ok a) fine more = more a fine
  then_fine f (Err e) fine more = tt

  rows_fine : (sched : Schedule) (before : Before) (n : ℕ) (asked : Asked) (rows : List (List (List ℕ))) → IsFine asked
      → Fine (after_rows_onto sched before n asked rows)
  rows_fine sched before n asked [] fine = fine
  rows_fine sched before n asked (fields ∷ rows) fine =
      then_fine (λ after. after_rows_onto sched before (n + 1) after rows) (after_row_onto sched before n asked fields)
      (understood_fine sched before n asked fields (understood n fields) refl fine)
      (λ after is. rows_fine sched before (n + 1) after rows is)

  -- what a script asks for on top of names that are names
  pub script_fine : (sched : Schedule) (before : Before) (script : List ℕ) (asked : Asked) → are_names before.names ≡ true
      → list_all is_utf8 before.names ≡ true → length before.names ≤ most_parties → script_onto sched before script ≡ Ok asked
      → IsFine asked
  script_fine sched before script asked are texts few h =
      subst Fine h (rows_fine sched before 1 (asked_on before) (rows_in script)
      (record { names = are; texts = texts; few = few; lines = tt }))
