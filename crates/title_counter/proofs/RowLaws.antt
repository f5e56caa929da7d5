-- What a clerk's calls come to.
use Rattle.std.proofs.Common.{◌≡◌, ◌⊎◌, ◌++◌, ◌∷◌, ◌∙◌, [], refl, ap, sym, subst, inl, inr, ℕ, List, true, false, length}
use Rattle.std.{proofs.Common.{IfErr, IfOk, Result, Ok, Err, nat_le, not}, specs.{Prelude.{codes}, Fmt.{decimal}}}
use Rattle.std.proofs.lemmas.Bool.{not-false, not-true}
use Rattle.title_land.specs.declared.survey.Township.{Township}
use Rattle.title_store.specs.Plants.{Plant}
use Rattle.title_chain.specs.declared.record.Record.{Record}
use Rattle.title_trace.specs.{declared.call.{Call.{Call}, Request.{Request}}, Due.{Setting}}
use Rattle.title_desk.specs.{Headline.{Headline}, Singles.{IsIdle}}
use Rattle.title_aliquot.specs.declared.fault.DescFault.{DescFault}
use Rattle.title_trace.specs.declared.call.Request.TheVariants as request
use Rattle.title_plan.specs.{Plans.{with_line, with_township}, Requests.{after_request, request_of}, Townships.{is_refused}}
use Rattle.title_plan.specs.declared.{fault.ScriptFault.{ScriptFault}, row.Act.{Act}}
use Rattle.title_plan.specs.Laws.Acts.{act_asks}
use Rattle.title_plan.specs.declared.fault.ScriptFault.TheVariants as fault
use Rattle.title_plan.specs.declared.line.Schedule.TheVariants as schedule
use Rattle.title_plan.specs.declared.row.Row.TheVariants as row
use Rattle.title_counter.specs.Counters.{Answered, Counter, aborted, asked_at, counted, due_answer, due_found, due_said, fault_number}
use Rattle.title_counter.specs.{Counters.{or_fault, passed_over, served, setting_at, township_answer}, Founds.{found_in}}
use Rattle.title_counter.specs.{Limits.{longest_line}, Sessions.{Ends, MayAnswer}, Views.{IsFault, line_in}, declared.found.Found.{Found}}

-- ---- results

pub if_ok : {T E : Type 0} {P Q : T → Type 0} (r : Result T E) → IfOk r P → ((x : T) → P x → Q x) → IfOk r Q
if_ok (Ok x) p f = f x p
if_ok (Err e) p f = tt

pub if_err : {T E : Type 0} {P Q : E → Type 0} (r : Result T E) → IfErr r P → ((e : E) → P e → Q e) → IfErr r Q
if_err (Ok x) p f = tt
if_err (Err e) p f = f e p

-- ---- steps

-- what an examiner asks is one step
one_step : (c : Counter) (e : ℕ) (asks : Result Request DescFault)
    → after_request schedule.Interleaved 1 (asked_at c) e asks ≡ Ok (with_line (asked_at c) (line_in e asks) [])
one_step c e (Ok (request.Begin f)) = refl
one_step c e (Ok (request.Commit f)) = refl
one_step c e (Ok (request.Abort f)) = refl
one_step c e (Ok (request.Step f a)) = refl
one_step c e (Err why) = refl

pub step_due : (c : Counter) (e : ℕ) (a : Act (List ℕ)) (asks : Result Request DescFault) (answer : Answered)
    → request_of 1 c.names e a ≡ Ok asks → served c (line_in e asks) ≡ answer → due_said c (row.Step e a) ≡ Ok answer
step_due c e a asks answer h is =
    rw (act_asks schedule.Interleaved 1 (asked_at c) e a, h, one_step c e asks) (ap (λ (x : Answered). Ok x) is)

pub step_fault : (c : Counter) (e : ℕ) (a : Act (List ℕ)) (why : ScriptFault)
    → (why ≡ fault.Memory) ⊎ (request_of 1 c.names e a ≡ Err why) → IsFault (due_said c (row.Step e a)) why
step_fault c e a why (inl memory) = inl memory
step_fault c e a why (inr h) = inr (rw (act_asks schedule.Interleaved 1 (asked_at c) e a, h) refl)

-- ---- rows

-- what is answered to a row that is passed over
abbrev pub at_fault : ScriptFault → ℕ → Counter → Answered
at_fault why n after = record { rows = (codes "fault" ∷ decimal (fault_number why) ∷ decimal n ∷ []) ∷ []; after = after }

pub passed : (c after : Counter) (why : ScriptFault) (n : ℕ) → after ≡ c → n ≡ c.rows → at_fault why n after ≡ passed_over c why
passed c after why n same number = rw (number, same) refl

-- a row that was taken, and one at fault
pub row_taken : (c : Counter) (due : Result Answered ScriptFault) (answer : Answered) → due ≡ Ok answer → answer ≡ or_fault c due
row_taken c due answer is = rw is refl

pub row_faulty : (c after : Counter) (due : Result Answered ScriptFault) (why : ScriptFault) (n : ℕ) → after ≡ c → n ≡ c.rows
    → IsFault due why
    → (at_fault why n after ≡ or_fault c due) ⊎ (at_fault why n after ≡ passed_over c fault.Memory)
row_faulty c after due why n same number (inl memory) = inr (passed c after why n same number ∙ ap (passed_over c) memory)
row_faulty c after due why n same number (inr is) = inl (passed c after why n same number ∙ sym (ap (or_fault c) is))

-- ---- lines

-- a line that isn't too long is answered by what is found in it
pub line_answered : (c : Counter) (line : List ℕ) (found : Found (List (List ℕ))) (answer : Answered)
    → not (nat_le (length line) longest_line) ≡ false → found ≡ found_in line
    → (answer ≡ due_found c found) ⊎ (answer ≡ passed_over (counted c) fault.Memory) → MayAnswer c line answer
line_answered c line found answer short is (inr memory) = inr memory
line_answered c line found answer short is (inl due) =
    let fits : nat_le (length line) longest_line ≡ true = not-false _ short in
    let whole : due_answer c line ≡ due_found c (found_in line) = rw fits refl in
    inl (due ∙ ap (due_found c) is ∙ sym whole)

pub line_too_long : (c : Counter) (line : List ℕ) (answer : Answered) → not (nat_le (length line) longest_line) ≡ true
    → answer ≡ passed_over (counted c) (fault.Row 1) → MayAnswer c line answer
line_too_long c line answer long is =
    let over : nat_le (length line) longest_line ≡ false = not-true _ long in
    let whole : due_answer c line ≡ passed_over (counted c) (fault.Row 1) = rw over refl in
    inl (is ∙ sym whole)

-- ---- the end

pub ends_of : (c : Counter) (es : List ℕ) (setting : Setting) (trace : List Call) (content : Plant) (records : List Record)
    → setting ≡ setting_at c → trace ≡ (aborted c es).trace → IsIdle trace → Headline setting trace content records → Ends c
ends_of c es setting trace content records same is idle headline = record {
  examiners = es;
  idle = subst IsIdle is idle;
  content = content;
  records = records;
  headline = subst (λ (s : Setting). Headline s (aborted c es).trace content records) same
      (subst (λ (t : List Call). Headline setting t content records) is headline);
}

-- ---- declarations

-- a township is declared, and there is a new desk
pub township_declared : (c : Counter) (t : Township) (townships : List Township) (n : ℕ) (trace : List Call)
    → is_refused c.townships t ≡ false
    → c.shut ≡ false → (c.shut ≡ false → c.trace ≡ []) → townships ≡ c.townships ++ t ∷ [] → n ≡ length townships → trace ≡ []
    → township_answer c (with_township 1 (asked_at c) t) ≡ Ok (record {
      rows = (codes "township" ∷ decimal n ∷ []) ∷ [];
      after = record {
        townships = townships;
        names = c.names;
        rows = c.rows;
        steps = c.steps;
        shut = c.shut;
        trace = trace;
      };
    })
township_declared c t townships n trace free unbegun unasked items number none =
    let was : c.trace ≡ [] = unasked unbegun in
    rw (free, unbegun, number, items, none, was) refl

-- one that is refused, and one that comes too late
pub township_refused : (c : Counter) (t : Township)
    → is_refused c.townships t ≡ true
    → IsFault (township_answer c (with_township 1 (asked_at c) t)) (fault.Row 1)
township_refused c t shut = inr (rw shut refl)

pub township_late : (c : Counter) (t : Township)
    → is_refused c.townships t ≡ false
    → c.shut ≡ true → IsFault (township_answer c (with_township 1 (asked_at c) t)) (fault.Order 1)
township_late c t free begun = inr (rw (free, begun) refl)
