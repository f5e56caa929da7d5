-- What rows bring a counter to, on top of what stood: names that are names, and calls that can be written; and it goes on from what it was.
-- Lists of calls have the newest first.
use Rattle.std.{proofs.Common.{◌≡◌, ◌∙◌, ◌&&◌, ◌||◌, ℕ, Bool, true, false, cond, List, [], ◌∷◌, ◌++◌, length}, specs.Prelude.{nat_le}}
use Rattle.std.proofs.Common.{Option, Some, None, Result, Ok, Err, IfOk, ⊎_elim, inl, inr, refl, sym, ap, subst, append_assoc}
use Rattle.std.{specs.{List.{AllByRecursion, list_all, list_any}, Str.{bytes_eq, is_utf8}}, proofs.lemmas.Bool.{and_parts, cases_Bool}}
use Rattle.std.proofs.lemmas.List.{append-nil}
use Rattle.title_land.specs.{declared.{survey.Township.{Township}, tract.Land.{Land}}, Survey.{same_township}}
use Rattle.title_land.specs.declared.tract.Land.TheVariants as land
use Rattle.title_aliquot.specs.declared.fault.DescFault.{DescFault}
use Rattle.title_instrument.specs.declared.instrument.Instrument.{Instrument}
use Rattle.title_chain.specs.Alone.{most_parties}
use Rattle.title_chain.specs.declared.ask.Ask.TheVariants as ask
use Rattle.title_trace.specs.{declared.call.{Call.{Call}, Request.{Request}}, Due.{most_townships}}
use Rattle.title_trace.specs.declared.call.Request.TheVariants as request
use Rattle.title_plan.specs.{declared.{fault.ScriptFault.{ScriptFault}, line.Line.{Line}, row.{Act.{Act}, Row.{Row}}}, Fields.{is_name}}
use Rattle.title_plan.specs.{Lands.{land_in}, Limits.{most_rows}, Rows.{row_in}}
use Rattle.title_plan.specs.Plans.{after_act, after_post, after_township, asked_of, line_of, numbered, post, rows_in, understood}
use Rattle.title_plan.specs.declared.fault.ScriptFault.TheVariants as fault
use Rattle.title_plan.specs.declared.line.Line.TheVariants as line
use Rattle.title_plan.specs.declared.line.Schedule.TheVariants as schedule
use Rattle.title_plan.specs.declared.row.Act.TheVariants as act
use Rattle.title_plan.specs.declared.row.Row.TheVariants as row
use Rattle.title_spelling.specs.{Posts.{IsExaminer}, Rows.{are_names}}
use Rattle.title_standing.specs.Standing.{replayed}
use Rattle.title_daybook.specs.Standing.{Standing}
use Rattle.title_counter.specs.Counters.{Answered, Counter, asked_at, counted, due_answer, due_found, due_said, due_understood, or_fault}
use Rattle.title_counter.specs.Counters.{party_answer, passed_over, served, setting_at, step_answer, township_answer, with_townships}
use Rattle.title_counter.specs.{Founds.{found_among, found_in, has_line_feed}, Limits.{longest_line}, Lines.{line_feed}}
use Rattle.title_counter.specs.Sessions.{Answers, MayAnswer}
use Rattle.title_lasting.specs.Laws.CallsMore.{CallsMore, further, line_more}
use Rattle.title_lasting.specs.Laws.FineRows.{texts_pushed, where_true, IsFineAct, IsFinePost, IsSaid, LandsHaveCells, names_pushed}
use Rattle.title_lasting.specs.Laws.FineRows.{numbered_is, row_said}
use Rattle.title_lasting.specs.Laws.FineScripts.{FineAsk, FineStep, ask_wider, chain_asks, post_asks, sheet_asks, step_fine}
use Rattle.title_lasting.specs.Laws.FineTraces.{FineCall, FineRequest}

-- ---- more names

request_wider : (names more : List (List ℕ)) (q : Request) → FineRequest IsExaminer (FineAsk names) q
    → FineRequest IsExaminer (FineAsk (names ++ more)) q
request_wider names more (request.Begin e) h = h
request_wider names more (request.Step e a) h = (h.0, ask_wider names more e a h.1)
request_wider names more (request.Commit e) h = h
request_wider names more (request.Abort e) h = h

calls_wider : (names more : List (List ℕ)) (calls : List Call) → AllByRecursion (FineCall IsExaminer (FineAsk names)) calls
    → AllByRecursion (FineCall IsExaminer (FineAsk (names ++ more))) calls
calls_wider names more [] h = tt
calls_wider names more (call ∷ calls) h = (request_wider names more call.request h.0, calls_wider names more calls h.1)

-- ---- what a counter has

-- names that are names and text, and calls that can be written, behind those that served what stood
pub record IsFineAt (s : Standing) (c : Counter) : Type 0 where
  pub names : are_names c.names ≡ true
  pub texts : list_all is_utf8 c.names ≡ true
  pub calls : CallsMore IsExaminer (FineAsk c.names) (replayed s.records) c.trace

-- a counter goes on from another
pub record GoesOnFrom (c d : Counter) : Type 0 where
  pub townships : List Township
  pub townships_are : d.townships ≡ c.townships ++ townships
  pub names : List (List ℕ)
  pub names_are : d.names ≡ c.names ++ names
  pub calls : List Call
  pub trace_is : d.trace ≡ calls ++ c.trace

pub record Fares (s : Standing) (c d : Counter) : Type 0 where
  pub fine : IsFineAt s d
  pub goes_on : GoesOnFrom c d

pub on_itself : (c : Counter) → GoesOnFrom c c
on_itself c = record {
  townships = [];
  townships_are = sym (append-nil c.townships);
  names = [];
  names_are = sym (append-nil c.names);
  calls = [];
  trace_is = refl;
}

-- one after another
pub on_from : (c m d : Counter) → GoesOnFrom c m → GoesOnFrom m d → GoesOnFrom c d
on_from c m d h k = record {
  townships = h.townships ++ k.townships;
  townships_are = k.townships_are ∙ ap (λ (ts : List Township). ts ++ k.townships) h.townships_are
      ∙ append_assoc c.townships h.townships k.townships;
  names = h.names ++ k.names;
  names_are = k.names_are ∙ ap (λ (ns : List (List ℕ)). ns ++ k.names) h.names_are ∙ append_assoc c.names h.names k.names;
  calls = k.calls ++ h.calls;
  trace_is = k.trace_is ∙ ap (λ (t : List Call). k.calls ++ t) h.trace_is ∙ sym (append_assoc k.calls h.calls c.trace);
}

module _ (s : Standing) where
  -- a row that is counted, and one that is passed over, add nothing
  counted_fine : (c : Counter) → IsFineAt s c → IsFineAt s (counted c)
  counted_fine c fine = record { names = fine.names; texts = fine.texts; calls = fine.calls }

  recounted : (c d : Counter) → Fares s (counted c) d → Fares s c d
  recounted c d h = record {
    fine = h.fine;
    goes_on = record {
      townships = h.goes_on.townships;
      townships_are = h.goes_on.townships_are;
      names = h.goes_on.names;
      names_are = h.goes_on.names_are;
      calls = h.goes_on.calls;
      trace_is = h.goes_on.trace_is;
    };
  }

  stays : (c : Counter) → IsFineAt s c → Fares s c c
  stays c fine = record { fine = fine; goes_on = on_itself c }

  -- an answer, if there is one, leaves a counter that goes on from this one
  abbrev FaresOn : Counter → Result Answered ScriptFault → Type 0
  FaresOn c r = IfOk r (λ answer. Fares s c answer.after)

  or_fault_fares : (c : Counter) (r : Result Answered ScriptFault) → IsFineAt s c → FaresOn c r → Fares s c (or_fault c r).after
  or_fault_fares c (Ok answer) fine h = h
  or_fault_fares c (Err e) fine h = stays c fine

  -- ---- declarations

  township_joins : (c : Counter) (t : Township) (shut : Bool) → IsFineAt s c
      → FaresOn c (cond shut (Err (fault.Order 1)) (Ok (with_townships c (c.townships ++ t ∷ []))))
  township_joins c t true fine = tt
  township_joins c t false fine = record {
    fine = record { names = fine.names; texts = fine.texts; calls = fine.calls };
    goes_on = record {
      townships = t ∷ [];
      townships_are = refl;
      names = [];
      names_are = sym (append-nil c.names);
      calls = [];
      trace_is = refl;
    };
  }

  township_free : (c : Counter) (t : Township) (refused : Bool) → IsFineAt s c
      → FaresOn c (township_answer c (cond refused (Err (fault.Row 1)) (Ok (record {
        townships = c.townships ++ t ∷ [];
        names = c.names;
        lines = [];
        inside = [];
      }))))
  township_free c t true fine = tt
  township_free c t false fine = township_joins c t c.shut fine

  township_fares : (c : Counter) (said : Result Land DescFault) → IsFineAt s c
      → FaresOn c (township_answer c (after_township 1 (asked_at c) said))
  township_fares c (Ok (land.Township t)) fine =
      township_free c t (nat_le most_townships (length c.townships) || list_any (λ other. same_township other t) c.townships) fine
  township_fares c _ fine = tt

  party_new : (c : Counter) (name : List ℕ) (known : Bool) → list_any (bytes_eq name) c.names ≡ known
      → (is_name name ≡ true) × (is_utf8 name ≡ true) → IsFineAt s c
      → FaresOn c (party_answer c (cond known (Err (fault.Party 1)) (Ok (record {
        townships = c.townships;
        names = c.names ++ name ∷ [];
        lines = [];
        inside = [];
      }))))
  party_new c name true none is fine = tt
  party_new c name false none is fine = record {
    fine = record {
      names = names_pushed c.names name fine.names is.0 none;
      texts = texts_pushed c.names name fine.texts is.1;
      calls = record {
        more = fine.calls.more;
        is = fine.calls.is;
        fine = calls_wider c.names (name ∷ []) fine.calls.more fine.calls.fine;
      };
    };
    goes_on = record {
      townships = [];
      townships_are = sym (append-nil c.townships);
      names = name ∷ [];
      names_are = refl;
      calls = [];
      trace_is = refl;
    };
  }

  party_fits : (c : Counter) (name : List ℕ) (full : Bool) → (is_name name ≡ true) × (is_utf8 name ≡ true) → IsFineAt s c
      → FaresOn c (party_answer c (cond full (Err (fault.Row 1)) (cond (list_any (bytes_eq name) c.names) (Err (fault.Party 1))
      (Ok (record { townships = c.townships; names = c.names ++ name ∷ []; lines = []; inside = [] })))))
  party_fits c name true is fine = tt
  party_fits c name false is fine = party_new c name (list_any (bytes_eq name) c.names) refl is fine

  -- ---- steps

  -- a step that can be written is served
  line_fares : (c : Counter) (l : Line) → IsFineAt s c → FineStep c.names l → Fares s c (served c l).after
  line_fares c l fine step =
      let more = line_more IsExaminer (FineAsk c.names) (setting_at c) c.trace l step in
      record {
        fine = record {
          names = fine.names;
          texts = fine.texts;
          calls = further IsExaminer (FineAsk c.names) (replayed s.records) c.trace (served c l).after.trace fine.calls more;
        };
        goes_on = record {
          townships = [];
          townships_are = sym (append-nil c.townships);
          names = [];
          names_are = sym (append-nil c.names);
          calls = more.more;
          trace_is = more.is;
        };
      }

  module _ (lands : LandsHaveCells land_in) where
    post_fares : (c : Counter) (e doc : ℕ) (instrument : Instrument (List ℕ)) (text : List ℕ) (got : Option (Instrument ℕ))
        → numbered c.names instrument ≡ got → IsFineAt s c → IsExaminer e → IsFinePost doc instrument
        → FaresOn c (step_answer c (after_post schedule.Interleaved 1 (asked_at c) e doc got text))
    post_fares c e doc instrument text None is fine examiner posts = tt
    post_fares c e doc instrument text (Some got) is fine examiner posts =
        let known = numbered_is c.names doc instrument got posts is in
        line_fares c (line_of false e (asked_of (post doc got) (land_in text))) fine
        (step_fine c.names false e (asked_of (post doc got) (land_in text)) examiner
        (post_asks lands c.names e doc got text (land_in text) refl examiner (λ l has. record {
          examiner = examiner;
          some_document = known.1.some_document;
          last_document = known.1.last_document;
          grantor = known.0.grantor;
          grantee = known.0.grantee;
          estates = known.1.estates;
          shares = known.1.shares;
          sized = has.0;
          cell = has.1;
        })))

    act_fares : (c : Counter) (e : ℕ) (a : Act (List ℕ)) → IsFineAt s c → IsExaminer e → IsFineAct a
        → FaresOn c (step_answer c (after_act schedule.Interleaved 1 (asked_at c) e a))
    act_fares c e act.Begin fine examiner is = line_fares c (line.Asks (request.Begin e)) fine examiner
    act_fares c e act.Commit fine examiner is = line_fares c (line.Asks (request.Commit e)) fine examiner
    act_fares c e act.Abort fine examiner is = line_fares c (line.Asks (request.Abort e)) fine examiner
    act_fares c e (act.Sheet text) fine examiner is =
        line_fares c (line_of false e (asked_of ask.Sheet (land_in text))) fine
        (step_fine c.names false e (asked_of ask.Sheet (land_in text)) examiner (sheet_asks c.names e (land_in text)))
    act_fares c e (act.Chain text) fine examiner is =
        line_fares c (line_of false e (asked_of ask.Chain (land_in text))) fine
        (step_fine c.names false e (asked_of ask.Chain (land_in text)) examiner (chain_asks c.names e (land_in text)))
    act_fares c e (act.Post doc instrument text) fine examiner is =
        post_fares c e doc instrument text (numbered c.names instrument) refl fine examiner is

    -- ---- rows

    said_fares : (c : Counter) (said : Row (List ℕ)) → IsFineAt s c → IsSaid said → FaresOn c (due_said c said)
    said_fares c (row.Township text) fine is = township_fares c (land_in text) fine
    said_fares c (row.Party name) fine is = party_fits c name (nat_le most_parties (length c.names)) is fine
    said_fares c (row.Step e a) fine is = act_fares c e a fine is.0 is.1

    understood_fares : (c : Counter) (fields : List (List ℕ)) (got : Option (Row (List ℕ))) → understood 1 fields ≡ got → IsFineAt s c
        → FaresOn c (due_understood c got)
    understood_fares c fields None is fine = tt
    understood_fares c fields (Some said) is fine =
        said_fares c said fine
        (let t = where_true (nat_le 1 most_rows && list_all is_utf8 fields) (row_in fields) said is in
        row_said fields said (and_parts (nat_le 1 most_rows) (list_all is_utf8 fields) t.0).1 t.1)

    -- what is found among the records of a line: no row, something else, or a row
    spoilt_fares : (c : Counter) → IsFineAt s c → Fares s c (passed_over (counted c) (fault.Row 1)).after
    spoilt_fares c fine = recounted c (counted c) (stays (counted c) (counted_fine c fine))

    fields_fare : (c : Counter) (fields : List (List ℕ)) → IsFineAt s c
        → Fares s c (or_fault (counted c) (due_understood (counted c) (understood 1 fields))).after
    fields_fare c fields fine =
        recounted c (or_fault (counted c) (due_understood (counted c) (understood 1 fields))).after
        (or_fault_fares (counted c) (due_understood (counted c) (understood 1 fields)) (counted_fine c fine)
        (understood_fares (counted c) fields (understood 1 fields) refl (counted_fine c fine)))

    found_fares : (c : Counter) (records : List (List (List ℕ))) → IsFineAt s c → Fares s c (due_found c (found_among records)).after
    found_fares c [] fine = stays c fine
    found_fares c (fields ∷ []) fine = elim (cases_Bool (list_any has_line_feed fields)) [
      | inl over ↦ rw over (spoilt_fares c fine)
      | inr whole ↦ rw whole (fields_fare c fields fine)
    ]
    found_fares c (fields ∷ more ∷ others) fine = spoilt_fares c fine

    passed_fares : (c : Counter) (e : ScriptFault) → IsFineAt s c → Fares s c (passed_over (counted c) e).after
    passed_fares c e fine = recounted c (counted c) (stays (counted c) (counted_fine c fine))

    -- one of two answers
    either_fares : (c : Counter) (b : Bool) (x y : Answered) → Fares s c x.after → Fares s c y.after → Fares s c (cond b x y).after
    either_fares c true x y h k = h
    either_fares c false x y h k = k

    due_fares : (c : Counter) (text : List ℕ) → IsFineAt s c → Fares s c (due_answer c text).after
    due_fares c text fine =
        either_fares c (nat_le (length text) longest_line) (due_found c (found_in text)) (passed_over (counted c) (fault.Row 1))
        (found_fares c (rows_in (text ++ line_feed ∷ [])) fine) (passed_fares c (fault.Row 1) fine)

    answer_fares : (c : Counter) (text : List ℕ) (answer : Answered) → IsFineAt s c → MayAnswer c text answer → Fares s c answer.after
    answer_fares c text answer fine may =
        ⊎_elim (λ (due : answer ≡ due_answer c text). subst (λ (x : Answered). Fares s c x.after) (sym due) (due_fares c text fine))
        (λ (memory : answer ≡ passed_over (counted c) fault.Memory). subst (λ (x : Answered). Fares s c x.after) (sym memory)
        (passed_fares c fault.Memory fine)) may

    -- rows one after another
    pub answers_fare : (c : Counter) (lines : List (List ℕ)) (text : List ℕ) (d : Counter) → IsFineAt s c → Answers c lines text d
        → Fares s c d
    answers_fare c [] text d fine answers = subst (λ (x : Counter). Fares s c x) (sym answers.1) (stays c fine)
    answers_fare c (l ∷ lines) text d fine answers =
        let first = answer_fares c l answers.0 fine answers.2 in
        let rest = answers_fare answers.0.after lines answers.1 d first.fine answers.3 in
        record { fine = rest.fine; goes_on = on_from c answers.0.after d first.goes_on rest.goes_on }
