-- Open transactions are aborted until none is open.
use Rattle.std.proofs.{Common.{◌≡◌, ◌≤◌, ◌<◌, ◌+◌, ◌++◌, ◌∷◌, ◌∙◌, [], refl, subst}, lemmas.Bool.{cases_Bool, Decides.{nat_tests}}}
use Rattle.std.proofs.Common.{sym, inl, inr, ℕ, List, Bool, true, false, cond, arith, eqb}
use Rattle.title_trace.specs.{declared.call.{Call.{Call}, Reply.{Reply}}, Due.{Setting}, Trace.{examiner_of, is_open, open_by}}
use Rattle.title_trace.specs.declared.call.Request.TheVariants as request
use Rattle.title_trace.specs.declared.call.Reply.TheVariants as reply
use Rattle.title_desk.specs.Told.{Books, Told}
use Rattle.title_script.specs.{Served.{after_call}, Laws.Replied.{asked}}
use Rattle.title_counter.specs.Closings.{with_aborts}

-- one more transaction is aborted
pub one_more : (setting : Setting) (trace : List Call) (e : ℕ) (es : List ℕ)
    → after_call setting (with_aborts setting trace es) (request.Abort e) ≡ with_aborts setting trace (es ++ e ∷ [])
one_more setting trace e [] = refl
one_more setting trace e (f ∷ es) = one_more setting (after_call setting trace (request.Abort f)) e es

-- an aborting call
abbrev pub abort_of : ℕ → Call
abort_of e = record { request = request.Abort e; reply = reply.Aborted }

-- how many of these calls are of examiners who are open after a trace
abbrev pub one_if : Bool → ℕ
one_if b = cond b 1 0

abbrev pub still_open : List Call → List Call → ℕ
still_open trace [] = 0
still_open trace (call ∷ calls) = one_if (is_open (examiner_of call.request) trace) + still_open trace calls

-- another's call leaves an examiner as it was
others : (r : Reply) (was : Bool) → open_by false r was ≡ was
others reply.Began was = refl
others (reply.Answered given) was = refl
others (reply.Committed place) was = refl
others reply.Aborted was = refl
others (reply.Denied why) was = refl
others reply.Memory was = refl

-- after an abort no more are open
one_less : (mine was : Bool) → one_if (cond mine false was) ≤ one_if was
one_less true true = omega arith
one_less true false = omega arith
one_less false true = omega arith
one_less false false = omega arith

no_more : (trace calls : List Call) (e : ℕ) → still_open (abort_of e ∷ trace) calls ≤ still_open trace calls
no_more trace [] e = omega arith
no_more trace (call ∷ calls) e =
    let first = one_less (eqb (examiner_of call.request) e) (is_open (examiner_of call.request) trace) in
    let rest = no_more trace calls e in
    omega (arith, first, rest)

-- who is aborted is not open
same_closed : (trace : List Call) (e : ℕ) → one_if (is_open e (abort_of e ∷ trace)) ≡ 0
same_closed trace e = let same : eqb e e ≡ true = grind (arith, nat_tests) in rw same refl

-- and where an examiner was open by some of these calls, one is less
fewer : (trace calls : List Call) (e : ℕ) → is_open e trace ≡ true → is_open e calls ≡ true
    → still_open (abort_of e ∷ trace) calls < still_open trace calls
fewer trace [] e was h = absurd (cc)
fewer trace (call ∷ calls) e was h = elim (cases_Bool (eqb e (examiner_of call.request))) [
  | inl mine ↦
      let is : e ≡ examiner_of call.request = grind (arith, nat_tests) in
      let now : one_if (is_open (examiner_of call.request) (abort_of e ∷ trace)) ≡ 0 =
      subst (λ (f : ℕ). one_if (is_open f (abort_of e ∷ trace)) ≡ 0) is (same_closed trace e) in
      let here : one_if (is_open e trace) ≡ 1 = rw was refl in
      let before : one_if (is_open (examiner_of call.request) trace) ≡ 1 =
      subst (λ (f : ℕ). one_if (is_open f trace) ≡ 1) is here in
      let rest = no_more trace calls e in
      omega (arith, now, before, rest)
  | inr other ↦
      let goes : is_open e calls ≡ true = sym (others call.reply (is_open e calls)) ∙ rw other at h in
      let first = one_less (eqb (examiner_of call.request) e) (is_open (examiner_of call.request) trace) in
      let rest = fewer trace calls e was goes in
      omega (arith, first, rest)
]

pub falls : (trace : List Call) (e : ℕ) → is_open e trace ≡ true
    → still_open (abort_of e ∷ trace) (abort_of e ∷ trace) < still_open trace trace
falls trace e was = let now = same_closed trace e in let rest = fewer trace trace e was was in omega (arith, now, rest)

-- ---- a sweep

abort_added : (old new : Books) (e : ℕ) (r : Reply) → r ≡ reply.Aborted → Told old (request.Abort e) r new
    → new.trace ≡ abort_of e ∷ old.trace
abort_added old new e reply.Aborted is told = told.1
abort_added old new e _ is told = absurd (cc)

pub record Swept (old new : Books) (e : ℕ) : Type 0 where
  pub setting : new.setting ≡ old.setting
  pub called : new.trace ≡ after_call old.setting old.trace (request.Abort e)
  pub added : new.trace ≡ abort_of e ∷ old.trace

pub swept : (old new : Books) (e : ℕ) (r : Reply) → r ≡ reply.Aborted → Told old (request.Abort e) r new → Swept old new e
swept old new e r is told =
    let a = asked old new (request.Abort e) r (λ memory. cc) told in
    record { setting = a.0; called = a.1; added = abort_added old new e r is told }

-- where nothing was asked nobody is open
pub none_asked : (trace after : List Call) (e : ℕ) → trace ≡ [] → is_open e trace ≡ true → after ≡ []
none_asked trace after e none is = let never : false ≡ true = rw none at is in absurd (cc never)
