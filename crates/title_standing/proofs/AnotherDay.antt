-- The calls that serve serial records are due.
use Rattle.std.proofs.Common.{◌≡◌, ℕ, suc, ◌≤◌, Bool, true, false, cond, List, [], ◌∷◌, map, reverse, length, refl, sym, ap, ap₂}
use Rattle.std.{proofs.{Common.{subst, ◌∙◌, arith, eqb, ne_eqb, Option, None}, lemmas.Bool.{lt-leb}}, specs.Prelude.{nat_le}}
use Rattle.std.proofs.lemmas.List.{length-reverse}
use Rattle.title_land.specs.{declared.survey.Township.{Township}, Lands.{is_in_plant}}
use Rattle.title_instrument.specs.declared.parts.Cause.{Cause}
use Rattle.title_chain.specs.{declared.{ask.{Ask.{Ask}, Step.{Step}}, record.Record.{Record}}, Asks.{tract_of, cause_of}}
use Rattle.title_chain.specs.{Alone.{alone, most_parties, Plays}, Overlaps.{overlaps}}
use Rattle.title_trace.specs.{declared.call.{Call.{Call}, Reply.{Reply}}, Trace.{is_open, open_steps, committed}}
use Rattle.title_trace.specs.{Due.{Setting, most_steps, InTheWay, DueStep, IsDue}, Laws.Law.{committed_serial}}
use Rattle.title_trace.specs.declared.call.Reply.TheVariants as reply
use Rattle.title_trace.specs.declared.denial.Denial.TheVariants as denial
use Rattle.title_standing.specs.{Standing.{asked_by, kept, replayed}, StandingLaws.{CommittedAreServed, SerialAreServed, widest}}
use Rattle.title_standing.{specs.{Replays.{begun}, Laws.ShortRecords.{committed_are_short}}, proofs.KeptRecords.{serial_kept}}
use Rattle.title_standing.proofs.Recalled.{done_before, open_still, own_steps, replayed_are_committed}
use Rattle.title_standing.specs.Laws.ShortRecords.{kept_are_short}

-- nobody has a step
abbrev HaveNone : List Call → Type 0
HaveNone before = (f : ℕ) → open_steps before f ≡ []

-- another examiner has none while one asks
others_none : (f e : ℕ) (steps : List Step) (before : List Call) → eqb f e ≡ false → HaveNone before
    → open_steps (asked_by e steps (begun e before)) f ≡ []
others_none f e [] before other none = ap (λ (mine : Bool). cond mine [] (open_steps before f)) other ∙ none f
others_none f e (s ∷ earlier) before other none =
    let rest : List Step = open_steps (asked_by e earlier (begun e before)) f in
    ap (λ (mine : Bool). cond mine (s ∷ rest) rest) other ∙ others_none f e earlier before other none

-- nor has anybody where records were served
replayed_none : (records : List Record) → HaveNone (replayed records)
replayed_none [] f = refl
replayed_none (r ∷ older) f = go (eqb f r.examiner) refl (replayed_none older)
  where
    go : (b : Bool) → eqb f r.examiner ≡ b → HaveNone (replayed older)
        → cond b [] (open_steps (asked_by r.examiner (reverse r.steps) (begun r.examiner (replayed older))) f) ≡ []
    go true mine none = refl
    go false other none = others_none f r.examiner (reverse r.steps) (replayed older) other none

due_step : (depth : ℕ) (setting : Setting) (before : List Call) (e : ℕ) (a : Ask) (r : Reply) (begun inside : Bool) (cause : Option Cause)
    (full : Bool) → begun ≡ true → inside ≡ true → cause ≡ None → full ≡ false
    → DueStep depth setting before e a r true true None false → DueStep depth setting before e a r begun inside cause full
due_step depth setting before e a r begun inside cause full begun_is there sound room due =
    subst (λ b. DueStep depth setting before e a r b inside cause full) (sym begun_is)
    (subst (λ b. DueStep depth setting before e a r true b cause full) (sym there)
    (subst (λ o. DueStep depth setting before e a r true true o full) (sym sound)
    (subst (λ b. DueStep depth setting before e a r true true None b) (sym room) due)))

-- steps that get their answers alone are due after those before them
steps_due : (depth : ℕ) (ts : List Township) (e : ℕ) (older : List Record) (before : List Call) (own : List Step) → HaveNone before
    → committed before ≡ older → IsDue depth (widest ts) (begun e before) → Plays depth ts older own → length own ≤ most_steps
    → IsDue depth (widest ts) (asked_by e own (begun e before))
steps_due depth ts e older before [] none done due plays short = due
steps_due depth ts e older before (s ∷ earlier) none done due plays short =
    let seen : List Call = asked_by e earlier (begun e before) in
    let mine : open_steps seen e ≡ earlier = own_steps e earlier before in
    let way : InTheWay seen e s.ask None =
    λ f other. ap (overlaps s.ask) (others_none f e earlier before (ne_eqb f e other) none) in
    let answer : s.answer ≡ alone depth ts (committed seen) (open_steps seen e) s.ask =
    plays.2 ∙ ap₂ (λ (rs : List Record) (steps : List Step). alone depth ts rs steps s.ask)
    (sym (done_before e earlier before ∙ done)) (sym mine) in
    let room : nat_le most_steps (length (open_steps seen e)) ≡ false =
    ap (λ (steps : List Step). nat_le most_steps (length steps)) mine ∙ lt-leb most_steps (length earlier) (omega arith) in (
      steps_due depth ts e older before earlier none done due plays.0 (omega arith),
      due_step depth (widest ts) seen e s.ask (reply.Answered s.answer) (is_open e seen) (is_in_plant ts (tract_of s.ask))
          (cause_of most_parties s.ask) (nat_le most_steps (length (open_steps seen e))) (open_still e earlier before) plays.1.0
          plays.1.1 room (None, way, ap reply.Answered answer),
    )

pub serial_are_served : SerialAreServed
serial_are_served depth ts [] serial short = tt
serial_are_served depth ts (r ∷ older) serial short =
    let e : ℕ = r.examiner in
    let before = serial_are_served depth ts older serial.0 short.1 in
    let after = replayed_are_committed older in
    let shut : is_open e (replayed older) ≡ false = after.1 e in
    let begins : reply.Began ≡ cond (is_open e (replayed older)) (reply.Denied denial.AlreadyOpen) reply.Began =
    ap (λ (b : Bool). cond b (reply.Denied denial.AlreadyOpen) reply.Began) (sym shut) in
    let few : length (reverse r.steps) ≤ most_steps =
    subst (λ (n : ℕ). n ≤ most_steps) (sym (length-reverse r.steps)) short.0 in
    let asked : IsDue depth (widest ts) (asked_by e (reverse r.steps) (begun e (replayed older))) =
    steps_due depth ts e older (replayed older) (reverse r.steps) (replayed_none older) after.0 (before, begins) serial.1 few in
    let place : suc (length older)
    ≡ suc (length (committed (asked_by e (reverse r.steps) (begun e (replayed older))))) =
    ap (λ (rs : List Record). suc (length rs)) (sym (done_before e (reverse r.steps) (replayed older) ∙ after.0)) in
    let ends : reply.Committed (suc (length older))
    ≡ cond (is_open e (asked_by e (reverse r.steps) (begun e (replayed older))))
    (reply.Committed (suc (length (committed (asked_by e (reverse r.steps) (begun e (replayed older))))))) (reply.Denied denial.NotOpen) =
    ap reply.Committed place
    ∙ ap (λ (b : Bool). cond b (reply.Committed (suc (length (committed (asked_by e (reverse r.steps) (begun e (replayed older)))))))
    (reply.Denied denial.NotOpen)) (sym (open_still e (reverse r.steps) (replayed older))) in
    (asked, ends)

pub committed_are_served : CommittedAreServed
committed_are_served depth setting few trace due =
    serial_are_served depth setting.townships (map kept (committed trace))
    (serial_kept depth setting.townships (committed trace) (committed_serial depth setting few trace due)).0
    (kept_are_short (committed trace) (committed_are_short depth setting trace due))
