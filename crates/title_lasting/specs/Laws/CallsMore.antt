-- What a script's steps add to a trace: calls, of which each request is one of the script's. Lists of calls have the newest first.
use Rattle.std.{proofs.Common.{◌≡◌, ◌∙◌, ℕ, List, [], ◌∷◌, ◌++◌, refl, sym, ap, append_assoc}, specs.List.{AllByRecursion}}
use Rattle.title_chain.specs.declared.ask.Ask.{Ask}
use Rattle.title_trace.specs.{declared.call.{Call.{Call}, Request.{Request}, Reply.{Reply}}, Due.{Setting}}
use Rattle.title_trace.specs.declared.call.Request.TheVariants as request
use Rattle.title_trace.specs.declared.call.Reply.TheVariants as reply
use Rattle.title_plan.specs.declared.line.Line.{Line}
use Rattle.title_plan.specs.declared.line.Line.TheVariants as line
use Rattle.title_desk.specs.Singles.{ending}
use Rattle.title_script.specs.{ReportLaws.{after_lines}, Served.{after_call, after_line, reply_to}}
use Rattle.title_lasting.specs.Laws.FineTraces.{FineCall, FineRequest, all_joined}

-- a call is the request with its reply
one_call : (setting : Setting) (before : List Call) (q : Request) →
    after_call setting before q ≡ record { request = q; reply = reply_to setting before q } ∷ before
unfolding after_call
one_call setting before q = refl

module _ (E : ℕ → Type 0) (P : ℕ → Ask → Type 0) where
  -- a trace goes on by calls of such requests
  pub record CallsMore (before after : List Call) : Type 0 where
    pub more : List Call
    pub is : after ≡ more ++ before
    pub fine : AllByRecursion (FineCall E P) more

  pub none_more : (before : List Call) → CallsMore before before
  none_more before = record { more = []; is = refl; fine = tt }

  call_more : (setting : Setting) (before : List Call) (q : Request) → FineRequest E P q → CallsMore before (after_call setting before q)
  call_more setting before q fine = record {
    more = record { request = q; reply = reply_to setting before q } ∷ [];
    is = one_call setting before q;
    fine = (fine, tt);
  }

  pub further : (first mid last : List Call) → CallsMore first mid → CallsMore mid last → CallsMore first last
  further first mid last h k = record {
    more = k.more ++ h.more;
    is = k.is ∙ ap (λ (t : List Call). k.more ++ t) h.is ∙ sym (append_assoc k.more h.more first);
    fine = all_joined (FineCall E P) k.more h.more k.fine h.fine;
  }

  -- a step row asks such requests
  abbrev pub FineLine : Line → Type 0
  FineLine (line.Asks q) = FineRequest E P q
  FineLine (line.Alone e a) = E e × P e a
  FineLine (line.Described e why) = Unit {0}

  pub ends : (e : ℕ) (r : Reply) → E e → FineRequest E P (ending e r)
  ends e (reply.Answered given) fine = fine
  ends e _ fine = fine

  pub line_more : (setting : Setting) (before : List Call) (l : Line) → FineLine l → CallsMore before (after_line setting before l)
  line_more setting before (line.Asks q) fine = call_more setting before q fine
  line_more setting before (line.Alone e a) fine =
      let begun : List Call = after_call setting before (request.Begin e) in
      let told : Reply = reply_to setting begun (request.Step e a) in
      let asked : List Call = after_call setting begun (request.Step e a) in
      further before begun (after_call setting asked (ending e told)) (call_more setting before (request.Begin e) fine.0)
      (further begun asked (after_call setting asked (ending e told)) (call_more setting begun (request.Step e a) fine)
      (call_more setting asked (ending e told) (ends e told fine.0)))
  line_more setting before (line.Described e why) fine = none_more before

  pub lines_more : (setting : Setting) (before : List Call) (lines : List Line) → AllByRecursion FineLine lines
      → CallsMore before (after_lines setting before lines)
  lines_more setting before [] fine = none_more before
  lines_more setting before (l ∷ lines) fine =
      further before (after_line setting before l) (after_lines setting (after_line setting before l) lines)
      (line_more setting before l fine.0) (lines_more setting (after_line setting before l) lines fine.1)

-- ---- any steps

abbrev pub AnyExaminer : ℕ → Type 0
AnyExaminer e = Unit {0}

abbrev pub AnyAsk : ℕ → Ask → Type 0
AnyAsk e a = Unit {0}

any_request : (q : Request) → FineRequest AnyExaminer AnyAsk q
any_request (request.Begin e) = tt
any_request (request.Step e a) = (tt, tt)
any_request (request.Commit e) = tt
any_request (request.Abort e) = tt

any_line : (l : Line) → FineLine AnyExaminer AnyAsk l
any_line (line.Asks q) = any_request q
any_line (line.Alone e a) = (tt, tt)
any_line (line.Described e why) = tt

pub any_lines : (lines : List Line) → AllByRecursion (FineLine AnyExaminer AnyAsk) lines
any_lines [] = tt
any_lines (l ∷ lines) = (any_line l, any_lines lines)

-- steps go on from what was there
pub steps_go_on : (setting : Setting) (before : List Call) (lines : List Line)
    → (more : List Call) × (after_lines setting before lines ≡ more ++ before)
steps_go_on setting before lines =
    let calls = lines_more AnyExaminer AnyAsk setting before lines (any_lines lines) in (calls.more, calls.is)
