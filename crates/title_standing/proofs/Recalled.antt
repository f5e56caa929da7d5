-- What calls that serve records leave behind.
use Rattle.std.proofs.Common.{◌≡◌, ℕ, suc, Bool, true, false, cond, List, [], ◌∷◌, reverse, length, refl, sym, ap, ap₂, subst, ◌∙◌}
use Rattle.std.proofs.{Common.{eqb, eq-eqb}, lemmas.List.{reverse-reverse}}
use Rattle.title_chain.specs.{declared.{ask.Step.{Step}, record.Record.{Record}}, Overlaps.{record_of}}
use Rattle.title_trace.specs.{declared.call.Call.{Call}, Trace.{is_open, open_steps, committed}}
use Rattle.title_trace.specs.declared.call.Request.TheVariants as request
use Rattle.title_trace.specs.declared.call.Reply.TheVariants as reply
use Rattle.title_desk.specs.Singles.{IsIdle}
use Rattle.title_standing.specs.{Standing.{asked_by, replayed}, StandingLaws.{ReplayedAreCommitted}, Replays.{begun, after_record}}

is_self : (e : ℕ) → eqb e e ≡ true
is_self e = eq-eqb e e refl

-- answered steps open nobody and shut nobody out
asked_open : (f e : ℕ) (steps : List Step) (before : List Call) → is_open f (asked_by e steps before) ≡ is_open f before
asked_open f e [] before = refl
asked_open f e (s ∷ earlier) before = asked_open f e earlier before

-- nor do they commit
asked_committed : (e : ℕ) (steps : List Step) (before : List Call) → committed (asked_by e steps before) ≡ committed before
asked_committed e [] before = refl
asked_committed e (s ∷ earlier) before = asked_committed e earlier before

-- they are the open steps of their examiner
asked_steps : (e : ℕ) (steps : List Step) (before : List Call) → open_steps before e ≡ [] → open_steps (asked_by e steps before) e ≡ steps
asked_steps e [] before none = none
asked_steps e (s ∷ earlier) before none =
    ap (λ (mine : Bool). cond mine (s ∷ open_steps (asked_by e earlier before) e) (open_steps (asked_by e earlier before) e)) (is_self e)
    ∙ ap (λ (own : List Step). s ∷ own) (asked_steps e earlier before none)

-- who has begun is open, also after answered steps, and has no step before them
pub open_still : (e : ℕ) (steps : List Step) (before : List Call) → is_open e (asked_by e steps (begun e before)) ≡ true
open_still e steps before =
    asked_open e e steps (begun e before) ∙ ap (λ (mine : Bool). cond mine true (is_open e before)) (is_self e)

pub own_steps : (e : ℕ) (steps : List Step) (before : List Call) → open_steps (asked_by e steps (begun e before)) e ≡ steps
own_steps e steps before =
    asked_steps e steps (begun e before) (ap (λ (mine : Bool). cond mine [] (open_steps before e)) (is_self e))

pub done_before : (e : ℕ) (steps : List Step) (before : List Call) → committed (asked_by e steps (begun e before)) ≡ committed before
done_before e steps before = asked_committed e steps (begun e before)

-- a record that is served comes to those that are committed
served_committed : (before : List Call) (r : Record) → committed (after_record before r) ≡ r ∷ committed before
served_committed before r =
    ap₂ (λ (own : List Step) (done : List Record). record_of r.examiner own ∷ done)
    (own_steps r.examiner (reverse r.steps) before) (done_before r.examiner (reverse r.steps) before)
    ∙ ap (λ (steps : List Step). record { examiner = r.examiner; steps = steps } ∷ committed before) (reverse-reverse r.steps)

-- and leaves nobody open
served_idle : (before : List Call) (r : Record) → IsIdle before → IsIdle (after_record before r)
served_idle before r idle f =
    ap (cond (eqb f r.examiner) false) (asked_open f r.examiner (reverse r.steps) (begun r.examiner before)) ∙ go (eqb f r.examiner)
  where
    go : (b : Bool) → cond b false (cond b true (is_open f before)) ≡ false
    go true = refl
    go false = idle f

-- one record more is served after those before it
next_after : (r : Record) (older : List Record) → committed (replayed older) ≡ older
    → replayed (r ∷ older) ≡ after_record (replayed older) r
next_after r older done =
    ap (λ (records : List Record). record { request = request.Commit r.examiner; reply = reply.Committed (suc (length records)) }
    ∷ asked_by r.examiner (reverse r.steps) (begun r.examiner (replayed older)))
    (sym (done_before r.examiner (reverse r.steps) (replayed older) ∙ done))

pub replayed_are_committed : ReplayedAreCommitted
replayed_are_committed [] = (refl, λ e. refl)
replayed_are_committed (r ∷ older) =
    let before = replayed_are_committed older in
    let next = next_after r older before.0 in (
      ap committed next ∙ served_committed (replayed older) r ∙ ap (λ (records : List Record). r ∷ records) before.0,
      subst IsIdle (sym next) (served_idle (replayed older) r before.1),
    )

pub replayed_next : (r : Record) (older : List Record) → replayed (r ∷ older) ≡ after_record (replayed older) r
replayed_next r older = next_after r older (replayed_are_committed older).0
