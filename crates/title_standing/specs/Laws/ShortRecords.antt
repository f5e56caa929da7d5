-- In a due trace no transaction has more steps than it may have, by induction on the trace.
use Rattle.std.proofs.Common.{◌≡◌, ℕ, suc, ◌<◌, ◌≤◌, Bool, true, false, cond, List, [], ◌∷◌, map, length, sym, subst, arith, eqb, leb-false}
use Rattle.std.{proofs.{Common.{Option, Some, None, refl}, lemmas.List.{length-reverse}}, specs.{List.{AllByRecursion}, Prelude.{nat_le}}}
use Rattle.std.proofs.lemmas.{Bool.{cond_both, eqb-true}, List.Sums.{count_by-le-length, length-filter}}
use Rattle.title_instrument.specs.declared.parts.Cause.{Cause}
use Rattle.title_chain.specs.{declared.{ask.{Ask.{Ask}, Step.{Step}}, record.Record.{Record}}, Alone.{alone}, Overlaps.{record_of}}
use Rattle.title_trace.specs.declared.call.{Call.{Call}, Request.{Request}, Reply.{Reply}}
use Rattle.title_trace.specs.Trace.{examiner_of, is_open, steps_by, open_steps, committed_by, committed}
use Rattle.title_trace.specs.Due.{Setting, most_steps, reply_past, DueStep, DueReply, IsDue}
use Rattle.title_trace.specs.declared.call.Request.TheVariants as request
use Rattle.title_trace.specs.declared.call.Reply.TheVariants as reply
use Rattle.title_trace.specs.declared.denial.Denial.TheVariants as denial
use Rattle.title_desk.specs.Images.{is_posted}
use Rattle.title_standing.specs.Standing.{kept}

-- a record has no more steps than a transaction may have
abbrev pub IsShort : Record → Type 0
IsShort r = length r.steps ≤ most_steps

-- so it is of these records and of the open steps of each examiner
record AreShort (records : List Record) (own : ℕ → List Step) : Type 0 where
  done : AllByRecursion IsShort records
  mine : (f : ℕ) → length (own f) ≤ most_steps

-- an examiner's steps go
short_emptied : (records : List Record) (own : ℕ → List Step) (e : ℕ) → AreShort records own
    → AreShort records (λ f. cond (eqb f e) [] (own f))
short_emptied records own e k = record {
  done = k.done;
  mine = λ f. cond_both (eqb f e) [] (own f) (λ steps. length steps ≤ most_steps) (λ _. omega arith) (λ _. k.mine f);
}

-- they become a record
short_committed : (records : List Record) (own : ℕ → List Step) (e : ℕ) → AreShort records own
    → AreShort (record_of e (own e) ∷ records) (λ f. cond (eqb f e) [] (own f))
short_committed records own e k = record {
  done = (subst (λ (n : ℕ). n ≤ most_steps) (sym (length-reverse (own e))) (k.mine e), k.done);
  mine = (short_emptied records own e k).mine;
}

-- one comes to them
short_answered : (records : List Record) (own : ℕ → List Step) (e : ℕ) (s : Step) → length (own e) < most_steps → AreShort records own
    → AreShort records (λ f. cond (eqb f e) (s ∷ own f) (own f))
short_answered records own e s room k = record {
  done = k.done;
  mine = λ f. cond_both (eqb f e) (s ∷ own f) (own f) (λ steps. length steps ≤ most_steps)
      (λ same. let room' : length (own f) < most_steps =
      subst (λ (g : ℕ). length (own g) < most_steps) (sym (eqb-true f e same)) room in omega arith)
      (λ _. k.mine f);
}

-- the same at a trace, and after a call with this reply
abbrev ShortAt : List Call → Type 0
ShortAt before = AreShort (committed before) (open_steps before)

abbrev ShortBy : List Call → Request → Reply → Type 0
ShortBy before q r =
    AreShort (committed_by r (record_of (examiner_of q) (open_steps before (examiner_of q))) (committed before))
    (λ f. steps_by (eqb f (examiner_of q)) q r (open_steps before f))

short_way : (depth : ℕ) (setting : Setting) (before : List Call) (e : ℕ) (a : Ask) (way : Option ℕ)
    → nat_le most_steps (length (open_steps before e)) ≡ false → ShortAt before
    → ShortBy before (request.Step e a) (reply_past depth setting before e a way)
short_way depth setting before e a (Some f) room k = k
short_way depth setting before e a None room k =
    short_answered (committed before) (open_steps before) e
    (record { ask = a; answer = alone depth setting.townships (committed before) (open_steps before e) a })
    (leb-false most_steps (length (open_steps before e)) room) k

short_step : (depth : ℕ) (setting : Setting) (before : List Call) (e : ℕ) (a : Ask) (r : Reply) (begun inside : Bool)
    (cause : Option Cause) (full : Bool) → nat_le most_steps (length (open_steps before e)) ≡ full
    → DueStep depth setting before e a r begun inside cause full → ShortAt before → ShortBy before (request.Step e a) r
short_step depth setting before e a r false inside cause full is due k = subst (ShortBy before (request.Step e a)) (sym due) k
short_step depth setting before e a r true false cause full is due k = subst (ShortBy before (request.Step e a)) (sym due) k
short_step depth setting before e a r true true (Some cause) full is due k = subst (ShortBy before (request.Step e a)) (sym due) k
short_step depth setting before e a r true true None true is due k = subst (ShortBy before (request.Step e a)) (sym due) k
short_step depth setting before e a r true true None false is due k =
    subst (ShortBy before (request.Step e a)) (sym due.2) (short_way depth setting before e a due.0 is k)

short_call : (depth : ℕ) (setting : Setting) (before : List Call) (q : Request) (r : Reply) → DueReply depth setting before q r
    → ShortAt before → ShortBy before q r
short_call depth setting before (request.Begin e) r due k =
    let P = ShortBy before (request.Begin e) in
    subst P (sym due) (cond_both (is_open e before) (reply.Denied denial.AlreadyOpen) reply.Began P (λ _. k) (λ _. short_emptied _ _ e k))
short_call depth setting before (request.Step e a) r due k = short_step depth setting before e a r _ _ _ _ refl due k
short_call depth setting before (request.Commit e) r due k =
    let P = ShortBy before (request.Commit e) in
    subst P (sym due) (cond_both (is_open e before) (reply.Committed (suc (length (committed before)))) (reply.Denied denial.NotOpen) P
    (λ _. short_committed _ _ e k) (λ _. k))
short_call depth setting before (request.Abort e) r due k =
    let P = ShortBy before (request.Abort e) in
    subst P (sym due) (cond_both (is_open e before) reply.Aborted (reply.Denied denial.NotOpen) P (λ _. short_emptied _ _ e k) (λ _. k))

short_at : (depth : ℕ) (setting : Setting) (trace : List Call) → IsDue depth setting trace → ShortAt trace
short_at depth setting [] due = record { done = tt; mine = λ f. omega arith }
short_at depth setting (call ∷ before) due =
    short_call depth setting before call.request call.reply due.1 (short_at depth setting before due.0)

-- so the committed records are short
pub committed_are_short : (depth : ℕ) (setting : Setting) (trace : List Call) → IsDue depth setting trace
    → AllByRecursion IsShort (committed trace)
committed_are_short depth setting trace due = (short_at depth setting trace due).done

-- and what is kept of them is no longer
pub kept_are_short : (records : List Record) → AllByRecursion IsShort records → AllByRecursion IsShort (map kept records)
kept_are_short [] short = tt
kept_are_short (r ∷ older) short =
    let posted = λ (s : Step). is_posted s.ask s.answer in
    let fewer = count_by-le-length posted r.steps in
    (omega (arith, length-filter posted r.steps), kept_are_short older short.1)
