-- An examiner that isn't open has no open steps, by induction on a due trace.
use Rattle.std.proofs.Common.{◌≡◌, ℕ, suc, Bool, true, false, cond, List, [], ◌∷◌, refl, ap, ◌∙◌, sym, subst, length, eqb, Option}
use Rattle.std.proofs.{Common.{Some, None}, lemmas.Bool.{cond_both, eqb-true}}
use Rattle.title_instrument.specs.declared.parts.Cause.{Cause}
use Rattle.title_chain.specs.{declared.ask.Step.{Step}, Alone.{alone}}
use Rattle.title_trace.specs.declared.call.{Call.{Call}, Request.{Request}, Reply.{Reply}}
use Rattle.title_trace.specs.Trace.{examiner_of, open_by, is_open, steps_by, open_steps, committed}
use Rattle.title_trace.specs.Due.{Setting, reply_past, DueStep, DueReply, IsDue}
use Rattle.title_trace.specs.declared.call.Request.TheVariants as request
use Rattle.title_trace.specs.declared.call.Reply.TheVariants as reply
use Rattle.title_trace.specs.declared.denial.Denial.TheVariants as denial

-- where it isn't open it has no steps
abbrev IsQuiet : Bool → List Step → Type 0
IsQuiet begun own = begun ≡ false → own ≡ []

-- the same after a call with this reply
abbrev QuietBy : List Call → ℕ → Request → Reply → Type 0
QuietBy before f q r = IsQuiet (open_by (eqb f (examiner_of q)) r (is_open f before))
    (steps_by (eqb f (examiner_of q)) q r (open_steps before f))

-- after a call that empties the steps of its examiner, whether it is open then or not
quiet_emptied : (mine now was : Bool) (own : List Step) → IsQuiet was own → IsQuiet (cond mine now was) (cond mine [] own)
quiet_emptied true now was own k shut = refl
quiet_emptied false now was own k shut = k shut

quiet_way : (depth : ℕ) (setting : Setting) (before : List Call) (e f : ℕ) (a : _) (way : Option ℕ) → is_open e before ≡ true
    → IsQuiet (is_open f before) (open_steps before f)
    → QuietBy before f (request.Step e a) (reply_past depth setting before e a way)
quiet_way depth setting before e f a (Some g) begun k = k
quiet_way depth setting before e f a None begun k = λ shut.
    let own = open_steps before f in
    let s : Step = record { ask = a; answer = alone depth setting.townships (committed before) (open_steps before e) a } in
    cond_both (eqb f e) (s ∷ own) own (λ xs. xs ≡ [])
    (λ t. let clash : true ≡ false = sym begun ∙ sym (ap (λ g. is_open g before) (eqb-true f e t)) ∙ shut in absurd cc) (λ _. k shut)

quiet_step : (depth : ℕ) (setting : Setting) (before : List Call) (e f : ℕ) (a : _) (r : Reply) (begun inside : Bool)
    (cause : Option Cause) (full : Bool) → is_open e before ≡ begun → DueStep depth setting before e a r begun inside cause full
    → IsQuiet (is_open f before) (open_steps before f) → QuietBy before f (request.Step e a) r
quiet_step depth setting before e f a r false inside cause full is due k = subst (QuietBy before f (request.Step e a)) (sym due) k
quiet_step depth setting before e f a r true false cause full is due k = subst (QuietBy before f (request.Step e a)) (sym due) k
quiet_step depth setting before e f a r true true (Some cause) full is due k = subst (QuietBy before f (request.Step e a)) (sym due) k
quiet_step depth setting before e f a r true true None true is due k = subst (QuietBy before f (request.Step e a)) (sym due) k
quiet_step depth setting before e f a r true true None false is due k =
    subst (QuietBy before f (request.Step e a)) (sym due.2) (quiet_way depth setting before e f a due.0 is k)

quiet_call : (depth : ℕ) (setting : Setting) (before : List Call) (f : ℕ) (q : Request) (r : Reply) → DueReply depth setting before q r
    → IsQuiet (is_open f before) (open_steps before f) → QuietBy before f q r
quiet_call depth setting before f (request.Begin e) r due k =
    let P = QuietBy before f (request.Begin e) in
    subst P (sym due) (cond_both (is_open e before) (reply.Denied denial.AlreadyOpen) reply.Began P
    (λ _. k) (λ _. quiet_emptied (eqb f e) _ _ _ k))
quiet_call depth setting before f (request.Step e a) r due k = quiet_step depth setting before e f a r _ _ _ _ refl due k
quiet_call depth setting before f (request.Commit e) r due k =
    let P = QuietBy before f (request.Commit e) in
    subst P (sym due) (cond_both (is_open e before) (reply.Committed (suc (length (committed before)))) (reply.Denied denial.NotOpen) P
    (λ _. quiet_emptied (eqb f e) _ _ _ k) (λ _. k))
quiet_call depth setting before f (request.Abort e) r due k =
    let P = QuietBy before f (request.Abort e) in
    subst P (sym due) (cond_both (is_open e before) reply.Aborted (reply.Denied denial.NotOpen) P
    (λ _. quiet_emptied (eqb f e) _ _ _ k) (λ _. k))

pub none_when_idle : (depth : ℕ) (setting : Setting) (trace : List Call) (e : ℕ) → IsDue depth setting trace →
    is_open e trace ≡ false → open_steps trace e ≡ []
none_when_idle depth setting [] e due = λ shut. refl
none_when_idle depth setting (call ∷ before) e due = quiet_call depth setting before e call.request call.reply due.1
    (none_when_idle depth setting before e due.0)
