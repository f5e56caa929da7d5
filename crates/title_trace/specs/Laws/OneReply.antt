-- The due reply is one, and the function gives it.
use Rattle.std.proofs.Common.{◌≡◌, ◌≢◌, ◌⊎◌, ◌↔◌, ◌<◌, ◌∙◌, ℕ, Bool, true, false, cond, not, inl, inr, refl, sym, ap, subst, eqb, min}
use Rattle.std.proofs.{Common.{List, [], ◌∷◌, filter, Option, Some, None, arith}, Math.Nat.{min-eq_left, min-eq_right}}
use Rattle.std.proofs.lemmas.Bool.{cases_Bool, cases_lt, cases_eq, and_parts, and_from, eqb-false, ne_eqb}
use Rattle.title_instrument.specs.declared.parts.Cause.{Cause}
use Rattle.title_chain.specs.{declared.ask.{Ask.{Ask}, Step.{Step}}, Overlaps.{overlaps}}
use Rattle.title_trace.specs.{declared.call.{Call.{Call}, Request.{Request}, Reply.{Reply}}, Trace.{examiner_of, steps_by, open_steps}}
use Rattle.title_trace.specs.Due.{Setting, InTheWay, reply_past, DueStep, DueReply}
use Rattle.title_trace.specs.Due.{lesser, least, examiners, stops, in_the_way, due_step, due_reply}
use Rattle.title_trace.specs.declared.call.Request.TheVariants as request
use Rattle.title_trace.specs.declared.call.Reply.TheVariants as reply

-- ---- the least of the numbers that pass a test

-- a number is in a list
Listed : ℕ → List ℕ → Type 0
Listed f [] = ⊥
Listed f (n ∷ ns) = (f ≡ n) ⊎ Listed f ns

-- the least number of a list that passes, where one does
IsLeast : (test : ℕ → Bool) → List ℕ → Option ℕ → Type 0
IsLeast test ns None = (f : ℕ) → Listed f ns → test f ≡ false
IsLeast test ns (Some m) = (test m ≡ true) × ((f : ℕ) → f < m → Listed f ns → test f ≡ false)

-- one more that does not pass changes nothing
fails_more : (test : ℕ → Bool) (n : ℕ) (ns : List ℕ) (r : Option ℕ) → test n ≡ false → IsLeast test ns r → IsLeast test (n ∷ ns) r
unfolding Listed IsLeast
fails_more test n ns None out h = λ f listed. elim listed [ inl same ↦ ap test same ∙ out | inr more ↦ h f more ]
fails_more test n ns (Some m) out h = (h.0, λ f low listed. elim listed [ inl same ↦ ap test same ∙ out | inr more ↦ h.1 f low more ])

-- one more that passes is the least, or leaves it
passes_more : (test : ℕ → Bool) (n : ℕ) (ns : List ℕ) (r : Option ℕ) → test n ≡ true → IsLeast test ns r →
    IsLeast test (n ∷ ns) (Some (lesser n r))
unfolding Listed IsLeast
passes_more test n ns None in_it h =
    (in_it, λ f low listed. elim listed [ inl same ↦ absurd (omega arith) | inr more ↦ h f more ])
passes_more test n ns (Some m) in_it h = elim (cases_lt n m) [
  | inl less ↦
      let is : min n m ≡ n = min-eq_left (omega arith) in
      (ap test is ∙ in_it, λ f low listed. elim listed [ inl same ↦ absurd (omega arith) | inr more ↦ h.1 f (omega arith) more ])
  | inr most ↦
      let is : min n m ≡ m = min-eq_right most in
      (ap test is ∙ h.0, λ f low listed. elim listed [ inl same ↦ absurd (omega arith) | inr more ↦ h.1 f (omega arith) more ])
]

least_is : (test : ℕ → Bool) (ns : List ℕ) → IsLeast test ns (least (filter test ns))
unfolding Listed IsLeast
least_is test [] = λ f none. absurd none
least_is test (n ∷ ns) = elim (cases_Bool (test n)) [
  | inl passes ↦
      subst (λ (b : Bool). IsLeast test (n ∷ ns) (least (cond b (n ∷ filter test ns) (filter test ns)))) (sym passes)
      (passes_more test n ns (least (filter test ns)) passes (least_is test ns))
  | inr fails ↦
      subst (λ (b : Bool). IsLeast test (n ∷ ns) (least (cond b (n ∷ filter test ns) (filter test ns)))) (sym fails)
      (fails_more test n ns (least (filter test ns)) fails (least_is test ns))
]

-- ---- who stands in the way

-- a call of another examiner leaves the open steps
others_stay : (q : Request) (r : Reply) (own : List Step) → steps_by false q r own ≡ own
others_stay q reply.Began own = refl
others_stay q (reply.Committed place) own = refl
others_stay q reply.Aborted own = refl
others_stay q (reply.Answered given) own = refl
others_stay q (reply.Denied why) own = refl
others_stay q reply.Memory own = refl

-- whose open steps overlap an ask is an examiner of the trace
overlaps_listed : (before : List Call) (a : Ask) (f : ℕ) → overlaps a (open_steps before f) ≡ true → Listed f (examiners before)
unfolding Listed
overlaps_listed [] a f e = absurd (cc e)
overlaps_listed (call ∷ before) a f e = elim (cases_eq f (examiner_of call.request)) [
  | inl same ↦ inl same
  | inr other ↦
      let mine = ne_eqb f (examiner_of call.request) other in
      let stays : open_steps (call ∷ before) f ≡ open_steps before f =
      ap (λ (b : Bool). steps_by b call.request call.reply (open_steps before f)) mine
      ∙ others_stay call.request call.reply (open_steps before f) in
      inr (overlaps_listed before a f (ap (overlaps a) (sym stays) ∙ e))
]

-- an examiner that does not stop an ask does not overlap it, unless it asks
unstopped : (before : List Call) (e : ℕ) (a : Ask) (f : ℕ) → f ≢ e → (Listed f (examiners before) → stops before e a f ≡ false) →
    overlaps a (open_steps before f) ≡ false
unstopped before e a f other passes = elim (cases_Bool (overlaps a (open_steps before f))) [
  | inl meets ↦
      let stopped = and_from (not (eqb f e)) (overlaps a (open_steps before f)) (ap not (ne_eqb f e other)) meets in
      let free = passes (overlaps_listed before a f meets) in
      absurd (cc (sym stopped ∙ free))
  | inr free ↦ free
]

not_same : (f e : ℕ) → not (eqb f e) ≡ true → f ≢ e
not_same f e h same = elim (cases_Bool (eqb f e)) [
  | inl equal ↦ absurd (cc (sym (ap not equal) ∙ h))
  | inr apart ↦ eqb-false f e apart same
]

least_in_the_way : (before : List Call) (e : ℕ) (a : Ask) (way : Option ℕ) → IsLeast (stops before e a) (examiners before) way →
    InTheWay before e a way
unfolding IsLeast
least_in_the_way before e a None h = λ f other. unstopped before e a f other (h f)
least_in_the_way before e a (Some m) h =
    let parts = and_parts (not (eqb m e)) (overlaps a (open_steps before m)) h.0 in
    (not_same m e parts.0, parts.1, λ g low other. unstopped before e a g other (h.1 g low))

-- the function gives one that stands in the way
way_is : (before : List Call) (e : ℕ) (a : Ask) → InTheWay before e a (in_the_way before e a)
way_is before e a = least_in_the_way before e a (in_the_way before e a) (least_is (stops before e a) (examiners before))

-- one at most stands in the way
one_way : (before : List Call) (e : ℕ) (a : Ask) (x y : Option ℕ) → InTheWay before e a x → InTheWay before e a y → x ≡ y
one_way before e a None None h k = refl
one_way before e a None (Some g) h k = absurd (cc (sym (h g k.0) ∙ k.1))
one_way before e a (Some f) None h k = absurd (cc (sym (k f h.0) ∙ h.1))
one_way before e a (Some f) (Some g) h k = elim (cases_lt f g) [
  | inl less ↦ absurd (cc (sym (k.2 f less h.0) ∙ h.1))
  | inr most ↦ elim (cases_lt g f) [
    | inl less ↦ absurd (cc (sym (h.2 g less k.0) ∙ k.1))
    | inr least_too ↦ ap (λ (n : ℕ). Some n) (omega arith)
  ]
]

pub one_in_the_way : (before : List Call) (e : ℕ) (a : Ask) (way : Option ℕ) → InTheWay before e a way ↔ (way ≡ in_the_way before e a)
one_in_the_way before e a way = (
  (λ h. one_way before e a way (in_the_way before e a) h (way_is before e a)),
  (λ same. subst (InTheWay before e a) (sym same) (way_is before e a)),
)

-- ---- the due reply

one_due_step : (depth : ℕ) (setting : Setting) (before : List Call) (e : ℕ) (a : Ask) (r : Reply) (begun inside : Bool)
    (cause : Option Cause) (full : Bool) →
    DueStep depth setting before e a r begun inside cause full ↔ (r ≡ due_step depth setting before e a begun inside cause full)
one_due_step depth setting before e a r false inside cause full = (λ h. h, λ h. h)
one_due_step depth setting before e a r true false cause full = (λ h. h, λ h. h)
one_due_step depth setting before e a r true true (Some cause) full = (λ h. h, λ h. h)
one_due_step depth setting before e a r true true None true = (λ h. h, λ h. h)
one_due_step depth setting before e a r true true None false = (
  (λ h. h.2 ∙ ap (reply_past depth setting before e a) ((one_in_the_way before e a h.0).0 h.1)),
  (λ same. (in_the_way before e a, way_is before e a, same)),
)

pub one_due_reply : (depth : ℕ) (setting : Setting) (before : List Call) (q : Request) (r : Reply) →
    DueReply depth setting before q r ↔ (r ≡ due_reply depth setting before q)
one_due_reply depth setting before (request.Begin e) r = (λ h. h, λ h. h)
one_due_reply depth setting before (request.Step e a) r = one_due_step depth setting before e a r _ _ _ _
one_due_reply depth setting before (request.Commit e) r = (λ h. h, λ h. h)
one_due_reply depth setting before (request.Abort e) r = (λ h. h, λ h. h)
