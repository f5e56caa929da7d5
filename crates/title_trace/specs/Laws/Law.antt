-- The law of due traces, by induction on the trace.
use Rattle.std.proofs.Common.{◌≡◌, ◌≢◌, ℕ, suc, ◌≤◌, Bool, true, false, cond, List, [], ◌∷◌, refl, ap, ◌∙◌, sym, subst, length, eqb, Option}
use Rattle.std.proofs.{Common.{Some, None}, lemmas.{Bool.{cond_both, eqb-true, eqb-false}, List.{reverse-reverse}}}
use Rattle.title_land.specs.{declared.survey.Township.{Township}, Lands.{is_in_plant}}
use Rattle.title_instrument.specs.declared.parts.Cause.{Cause}
use Rattle.title_chain.specs.{declared.{ask.{Ask.{Ask}, Step.{Step}}, record.Record.{Record}}, Asks.{tract_of, cause_of}}
use Rattle.title_chain.specs.{Alone.{alone, CanStand, Plays, IsSerial, most_parties}, Overlaps.{overlaps, Clear, record_of}}
use Rattle.title_chain.specs.Laws.Past.{clear_nothing, clear_later, plays_past}
use Rattle.title_trace.specs.{declared.call.{Call.{Call}, Request.{Request}, Reply.{Reply}}, Laws.Causes.{cause_among_more}}
use Rattle.title_trace.specs.Trace.{examiner_of, is_open, steps_by, open_steps, committed_by, committed}
use Rattle.title_trace.specs.Due.{Setting, InTheWay, reply_past, DueStep, DueReply, IsDue}
use Rattle.title_trace.specs.declared.call.Request.TheVariants as request
use Rattle.title_trace.specs.declared.call.Reply.TheVariants as reply
use Rattle.title_trace.specs.declared.denial.Denial.TheVariants as denial

-- what holds of the committed records and of the open steps of each examiner
pub record Kept (depth : ℕ) (townships : List Township) (records : List Record) (own : ℕ → List Step) : Type 0 where
  pub serial : IsSerial depth townships records
  pub plays : (e : ℕ) → Plays depth townships records (own e)
  pub clear : (e f : ℕ) → e ≢ f → Clear (own e) (own f)

clear_emptied : (own : ℕ → List Step) (e f g : ℕ) → Clear (own f) (own g) → Clear (cond (eqb f e) [] (own f)) (cond (eqb g e) [] (own g))
clear_emptied own e f g h =
    cond_both (eqb f e) [] (own f) (λ xs. Clear xs (cond (eqb g e) [] (own g))) (λ _. tt)
    (λ _. cond_both (eqb g e) [] (own g) (λ ys. Clear (own f) ys) (λ _. clear_nothing (own f)) (λ _. h))

-- an examiner's steps go, by Began or Aborted
kept_emptied : (depth : ℕ) (townships : List Township) (records : List Record) (own : ℕ → List Step) (e : ℕ)
    → Kept depth townships records own → Kept depth townships records (λ f. cond (eqb f e) [] (own f))
kept_emptied depth townships records own e k = record {
  serial = k.serial;
  plays = λ f. cond_both (eqb f e) [] (own f) (Plays depth townships records) (λ _. tt) (λ _. k.plays f);
  clear = λ f g ne. clear_emptied own e f g (k.clear f g ne);
}

-- a transaction is committed
kept_committed : (depth : ℕ) (townships : List Township) (records : List Record) (own : ℕ → List Step) (e : ℕ)
    → Kept depth townships records own → Kept depth townships (record_of e (own e) ∷ records) (λ f. cond (eqb f e) [] (own f))
kept_committed depth townships records own e k = record {
  serial = (k.serial, rw reverse-reverse (k.plays e));
  plays = λ f. cond_both (eqb f e) [] (own f) (Plays depth townships (record_of e (own e) ∷ records)) (λ _. tt)
      (λ n. plays_past depth townships records e (own e) (own f) (k.clear f e (eqb-false f e n)) (k.plays f));
  clear = λ f g ne. clear_emptied own e f g (k.clear f g ne);
}

-- an ask is answered
kept_answered : (depth : ℕ) (townships : List Township) (records : List Record) (own : ℕ → List Step) (e : ℕ) (a : Ask)
    → CanStand townships a → ((f : ℕ) → f ≢ e → overlaps a (own f) ≡ false) → Kept depth townships records own →
    Kept depth townships records (λ f. cond (eqb f e) (record { ask = a; answer = alone depth townships records (own e) a } ∷ own f)
    (own f))
kept_answered depth townships records own e a stands free k =
    let s : Step = record { ask = a; answer = alone depth townships records (own e) a } in record {
      serial = k.serial;
      plays = λ f. cond_both (eqb f e) (s ∷ own f) (own f) (Plays depth townships records)
          (λ t. (k.plays f, stands, ap (λ g. alone depth townships records (own g) a) (sym (eqb-true f e t)))) (λ _. k.plays f);
      clear = λ f g ne. cond_both (eqb f e) (s ∷ own f) (own f) (λ xs. Clear xs (cond (eqb g e) (s ∷ own g) (own g)))
          (λ t. cond_both (eqb g e) (s ∷ own g) (own g) (λ ys. Clear (s ∷ own f) ys)
          (λ u. absurd (ne (eqb-true f e t ∙ sym (eqb-true g e u)))) (λ n. (k.clear f g ne, free g (eqb-false g e n))))
          (λ n. cond_both (eqb g e) (s ∷ own g) (own g) (λ ys. Clear (own f) ys)
          (λ u. clear_later (own f) (own g) s (k.clear f g ne) (free f (eqb-false f e n))) (λ _. k.clear f g ne));
    }

-- what holds after a call with this reply
abbrev pub KeptBy : ℕ → Setting → List Call → Request → Reply → Type 0
KeptBy depth setting before q r = Kept depth setting.townships
    (committed_by r (record_of (examiner_of q) (open_steps before (examiner_of q))) (committed before))
    (λ f. steps_by (eqb f (examiner_of q)) q r (open_steps before f))

abbrev pub KeptAt : ℕ → Setting → List Call → Type 0
KeptAt depth setting before = Kept depth setting.townships (committed before) (open_steps before)

kept_way : (depth : ℕ) (setting : Setting) (before : List Call) (e : ℕ) (a : Ask) (way : Option ℕ) → CanStand setting.townships a
    → InTheWay before e a way → KeptAt depth setting before
    → KeptBy depth setting before (request.Step e a) (reply_past depth setting before e a way)
kept_way depth setting before e a None stands free k =
    kept_answered depth setting.townships (committed before) (open_steps before) e a stands free k
kept_way depth setting before e a (Some f) stands least k = k

kept_step : (depth : ℕ) (setting : Setting) (before : List Call) (e : ℕ) (a : Ask) (r : Reply) (begun inside : Bool) (cause : Option Cause)
    (full : Bool) → setting.parties ≤ most_parties →
    is_in_plant setting.townships (tract_of a) ≡ inside → cause_of setting.parties a ≡ cause →
    DueStep depth setting before e a r begun inside cause full → KeptAt depth setting before
    → KeptBy depth setting before (request.Step e a) r
kept_step depth setting before e a r false inside cause full most i c due k =
    subst (KeptBy depth setting before (request.Step e a)) (sym due) k
kept_step depth setting before e a r true false cause full most i c due k =
    subst (KeptBy depth setting before (request.Step e a)) (sym due) k
kept_step depth setting before e a r true true (Some cause) full most i c due k =
    subst (KeptBy depth setting before (request.Step e a)) (sym due) k
kept_step depth setting before e a r true true None true most i c due k = subst (KeptBy depth setting before (request.Step e a)) (sym due) k
kept_step depth setting before e a r true true None false most i c due k =
    subst (KeptBy depth setting before (request.Step e a)) (sym due.2)
    (kept_way depth setting before e a due.0 (i, cause_among_more setting.parties most_parties a most c) due.1 k)

kept_call : (depth : ℕ) (setting : Setting) (before : List Call) (q : Request) (r : Reply) → setting.parties ≤ most_parties
    → DueReply depth setting before q r → KeptAt depth setting before → KeptBy depth setting before q r
kept_call depth setting before (request.Begin e) r most due k =
    let P = KeptBy depth setting before (request.Begin e) in
    subst P (sym due) (cond_both (is_open e before) (reply.Denied denial.AlreadyOpen) reply.Began P
    (λ _. k) (λ _. kept_emptied _ _ _ _ e k))
kept_call depth setting before (request.Step e a) r most due k = kept_step depth setting before e a r _ _ _ _ most refl refl due k
kept_call depth setting before (request.Commit e) r most due k =
    let P = KeptBy depth setting before (request.Commit e) in
    subst P (sym due) (cond_both (is_open e before) (reply.Committed (suc (length (committed before)))) (reply.Denied denial.NotOpen) P
    (λ _. kept_committed _ _ _ _ e k) (λ _. k))
kept_call depth setting before (request.Abort e) r most due k =
    let P = KeptBy depth setting before (request.Abort e) in
    subst P (sym due) (cond_both (is_open e before) reply.Aborted (reply.Denied denial.NotOpen) P (λ _. kept_emptied _ _ _ _ e k) (λ _. k))

pub kept : (depth : ℕ) (setting : Setting) → setting.parties ≤ most_parties → (trace : List Call) → IsDue depth setting trace
    → KeptAt depth setting trace
kept depth setting most [] due = record { serial = tt; plays = λ e. tt; clear = λ e f ne. tt }
kept depth setting most (call ∷ before) due = kept_call depth setting before call.request call.reply most due.1
    (kept depth setting most before due.0)

pub committed_serial : (depth : ℕ) (setting : Setting) → setting.parties ≤ most_parties → (trace : List Call) → IsDue depth setting trace
    → IsSerial depth setting.townships (committed trace)
committed_serial depth setting most trace due = (kept depth setting most trace due).serial

pub open_last : (depth : ℕ) (setting : Setting) → setting.parties ≤ most_parties → (trace : List Call) (e : ℕ) → IsDue depth setting trace
    → IsSerial depth setting.townships (record_of e (open_steps trace e) ∷ committed trace)
open_last depth setting most trace e due = let k = kept depth setting most trace due in (k.serial, rw reverse-reverse (k.plays e))
