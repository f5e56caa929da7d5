-- A slip's asks are what is served of the asks so far.
use Rattle.std.proofs.Common.{◌≡◌, ◌<◌, ◌≤◌, ◌++◌, ◌⊎◌, ◌&&◌, ℕ, Bool, true, false, not, cond, List, [], ◌∷◌, length, filter, take}
use Rattle.std.proofs.Common.{Option, Some, None, is_some, Result, Ok, Err, IfErr, MatchResult, OnOk}
use Rattle.std.proofs.Common.{refl, sym, ap, ◌∙◌, subst, inl, inr, arith}
use Rattle.std.proofs.{Math.Nat.{le_refl}, lemmas.{Bool.{leb-true, leb-false}, List.{map-append, length-map, length-reverse}}}
use Rattle.std.proofs.lemmas.{List.{length-take, length-append, append-nil, take_all, take-append-le}, List.Elements.{filter-append}}
use Rattle.title_land.specs.Depth.{depth}
use Rattle.title_instrument.specs.declared.parts.Cause.{Cause}
use Rattle.title_chain.specs.declared.ask.{Ask.{Ask}, Answer.{Answer}}
use Rattle.title_trace.specs.{declared.{call.Call.{Call}, denial.Denial.{Denial}}, Trace.{open_steps}}
use Rattle.title_trace.specs.Due.{Setting, DueStep, most_steps}
use Rattle.title_trace.specs.declared.call.Request.TheVariants as request
use Rattle.title_trace.specs.declared.call.Reply.TheVariants as reply
use Rattle.title_trace.specs.declared.denial.Denial.TheVariants as denial
use Rattle.title_office.specs.{declared.fault.Fault.{Fault}, Transactions.{asks_of, is_allowed}}
use Rattle.title_office.specs.Offices.{SlipState, Answers, Refuses, IsLast, Stands, with_step}
use Rattle.title_office.specs.Turns.{GoesOn, HasAsked, IsPassedOver}
use Rattle.title_office.specs.declared.fault.Fault.TheVariants as fault

-- ---- lists of which the first so many are taken

-- behind as many no more comes
take_full : {A : Type 0} (n : ℕ) (xs ys : List A) → n ≤ length (take n xs) → take n (xs ++ ys) ≡ take n xs
take_full n xs ys h = take-append-le n xs ys (omega (arith, length-take n xs))

-- behind fewer one more does
take_next : {A : Type 0} (n : ℕ) (xs : List A) (y : A) → length (take n xs) < n → take n (xs ++ y ∷ []) ≡ take n xs ++ y ∷ []
take_next n xs y h =
    let short : length xs < n = omega (arith, length-take n xs) in
    take_all n (xs ++ y ∷ []) (omega (arith, length-append xs (y ∷ []))) ∙ ap (λ l. l ++ y ∷ []) (sym (take_all n xs (omega arith)))

-- one more that passes, and one that doesn't
filter_next : {A : Type 0} (p : A → Bool) (xs : List A) (y : A) → p y ≡ true → filter p (xs ++ y ∷ []) ≡ filter p xs ++ y ∷ []
filter_next p xs y passes = filter-append p xs (y ∷ []) ∙ ap (λ b. filter p xs ++ cond b (y ∷ []) []) passes

filter_same : {A : Type 0} (p : A → Bool) (xs : List A) (y : A) → p y ≡ false → filter p (xs ++ y ∷ []) ≡ filter p xs
filter_same p xs y fails = filter-append p xs (y ∷ []) ∙ ap (λ b. filter p xs ++ cond b (y ∷ []) []) fails ∙ append-nil (filter p xs)

-- ---- one ask more

-- one that isn't allowed is passed over
not_allowed : (setting : Setting) (slip : SlipState) (a : Ask) → is_allowed setting a ≡ false → HasAsked setting slip a slip
not_allowed setting slip a barred = record {
  more = λ done same. same ∙ sym (ap (take most_steps) (filter_same (is_allowed setting) done a barred));
}

-- and so is any behind as many steps as a transaction may have
too_long : (setting : Setting) (slip : SlipState) (a : Ask) → most_steps ≤ length slip.rec.steps → HasAsked setting slip a slip
too_long setting slip a many = record {
  more = λ done same.
      let own : List Ask = filter (is_allowed setting) done in
      let full : most_steps ≤ length (take most_steps own) =
      subst (λ n. most_steps ≤ n) (sym (length-map slip.rec.steps (λ s. s.ask)) ∙ ap length same) many in
      same ∙ sym (ap (take most_steps) (filter-append (is_allowed setting) done (a ∷ [])) ∙
      take_full most_steps own (filter (is_allowed setting) (a ∷ [])) full);
}

-- any other is answered
allowed : (setting : Setting) (slip after : SlipState) (a : Ask) → is_allowed setting a ≡ true → length slip.rec.steps < most_steps
    → asks_of after.rec ≡ asks_of slip.rec ++ a ∷ [] → HasAsked setting slip a after
allowed setting slip after a free few next = record {
  more = λ done same.
      let own : List Ask = filter (is_allowed setting) done in
      let short : length (take most_steps own) < most_steps =
      subst (λ n. n < most_steps) (sym (length-map slip.rec.steps (λ s. s.ask)) ∙ ap length same) few in
      next ∙ ap (λ asks. asks ++ a ∷ []) same ∙ sym (ap (take most_steps) (filter_next (is_allowed setting) done a free) ∙
      take_next most_steps own a short);
}

-- ---- what the due reply tells of the ask

-- an answered step is allowed, and not behind too many
due_answered : (setting : Setting) (before : List Call) (e : ℕ) (a : Ask) (given : Answer) (begun inside : Bool) (cause : Option Cause)
    (full : Bool) → DueStep depth setting before e a (reply.Answered given) begun inside cause full
    → ((inside && not (is_some cause)) ≡ true) × (full ≡ false)
due_answered setting before e a given false inside cause full due = absurd (cc due)
due_answered setting before e a given true false cause full due = absurd (cc due)
due_answered setting before e a given true true (Some cause) full due = absurd (cc due)
due_answered setting before e a given true true None true due = absurd (cc due)
due_answered setting before e a given true true None false due = (refl, refl)

-- one that is passed over isn't allowed, or is behind too many
due_passed : (setting : Setting) (before : List Call) (e : ℕ) (a : Ask) (why : Denial) (begun inside : Bool) (cause : Option Cause)
    (full : Bool) → IsPassedOver (fault.Denied why) → DueStep depth setting before e a (reply.Denied why) begun inside cause full
    → ((inside && not (is_some cause)) ≡ false) ⊎ (full ≡ true)
due_passed setting before e a why false inside cause full over due =
    let same : why ≡ denial.NotOpen = cc due in absurd (subst (λ w. IsPassedOver (fault.Denied w)) same over)
due_passed setting before e a why true false cause full over due = inl refl
due_passed setting before e a why true true (Some cause) full over due = inl refl
due_passed setting before e a why true true None true over due = inr refl
due_passed setting before e a why true true None false over (None, free, due) = absurd (cc due)
due_passed setting before e a why true true None false over (Some f, inway, due) =
    let same : why ≡ denial.Conflict f = cc due in absurd (subst (λ w. IsPassedOver (fault.Denied w)) same over)

-- a standing slip has as many steps as its examiner's open transaction
as_many : (slip : SlipState) (before : List Call) → Stands slip before
    → length (open_steps before slip.seat.examiner) ≡ length slip.rec.steps
as_many slip before stands = ap length stands.1 ∙ length-reverse slip.rec.steps

-- ---- the office's calls, as a worker sees them

step_answered : (setting : Setting) (slip : SlipState) (a : Ask) (after : SlipState) → Answers setting slip a after
    → HasAsked setting slip a after
step_answered setting slip a after (before, given, last, stands, is) =
    let due = due_answered setting before slip.seat.examiner a given _ _ _ _ last.1 in
    let few : length slip.rec.steps < most_steps =
    subst (λ n. n < most_steps) (as_many slip before stands) (leb-false most_steps _ due.1) in
    subst (HasAsked setting slip a) (sym is) (allowed setting slip (with_step slip before a given) a due.0 few
    (map-append (λ s. s.ask) slip.rec.steps (record { ask = a; answer = given } ∷ [])))

over_at : (setting : Setting) (slip : SlipState) (a : Ask) (after : SlipState) (why : Denial) (before : List Call)
    → IsPassedOver (fault.Denied why) → after ≡ slip
    → IsLast setting before (request.Step slip.seat.examiner a) (reply.Denied why) → Stands slip before → HasAsked setting slip a after
over_at setting slip a after why before over is last stands =
    let due = due_passed setting before slip.seat.examiner a why _ _ _ _ over last.1 in
    subst (HasAsked setting slip a) (sym is) (elim due [
      | inl barred ↦ not_allowed setting slip a barred
      | inr full ↦
          too_long setting slip a (subst (λ n. most_steps ≤ n) (as_many slip before stands) (leb-true most_steps _ full))
    ])

step_over : (setting : Setting) (slip : SlipState) (a : Ask) (after : SlipState) (why : Fault) → Refuses setting slip a after why
    → IsPassedOver why → HasAsked setting slip a after
step_over setting slip a after (fault.Denied denial.NoSuchTownship) (is, (before, last, stands)) over =
    over_at setting slip a after denial.NoSuchTownship before tt is last stands
step_over setting slip a after (fault.Denied (denial.Invalid cause)) (is, (before, last, stands)) over =
    over_at setting slip a after (denial.Invalid cause) before tt is last stands
step_over setting slip a after (fault.Denied denial.TooLong) (is, (before, last, stands)) over =
    over_at setting slip a after denial.TooLong before tt is last stands
step_over setting slip a after _ refused over = absurd over

-- a step that is answered or passed over has been asked
asked : {T : Type 0} (setting : Setting) (slip : SlipState) (a : Ask) (after : SlipState) (r : Result T Fault)
    → MatchResult r (λ _. Answers setting slip a after) (λ why. Refuses setting slip a after why) → IfErr r IsPassedOver
    → HasAsked setting slip a after
asked setting slip a after (Ok t) answered over = step_answered setting slip a after answered
asked setting slip a after (Err why) refused over = step_over setting slip a after why refused over

-- and so has it where the worker goes on after it
pub asked_where : {T U E : Type 0} (setting : Setting) (slip : SlipState) (a : Ask) (after : SlipState) (r : Result T Fault)
    (went : Result U E) → MatchResult r (λ _. Answers setting slip a after) (λ why. Refuses setting slip a after why)
    → OnOk went (IfErr r IsPassedOver) → OnOk went (HasAsked setting slip a after)
asked_where setting slip a after r (Ok u) made over = asked setting slip a after r made over
asked_where setting slip a after r (Err e) made over = tt

-- a slip is its own later state
stays : (slip after : SlipState) → after ≡ slip → GoesOn slip after
stays slip after is = subst (GoesOn slip) (sym is) ((refl, le_refl slip.seat.seen), refl)

-- a step leaves the slip its examiner's
pub goes_on : {T : Type 0} (setting : Setting) (slip : SlipState) (a : Ask) (after : SlipState) (r : Result T Fault)
    → MatchResult r (λ _. Answers setting slip a after) (λ why. Refuses setting slip a after why) → GoesOn slip after
goes_on setting slip a after (Ok t) (before, given, last, stands, is) = subst (GoesOn slip) (sym is) ((refl, stands.2), refl)
goes_on setting slip a after (Err why) refused = stays slip after refused.0
