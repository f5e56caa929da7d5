-- Records served again: what a call of a replay leaves, from what stood before it.
use Rattle.std.proofs.Common.{◌≡◌, ◌↔◌, ℕ, ◌+◌, ◌-◌, ◌<◌, Bool, true, false, List, [], ◌∷◌, ◌++◌, map, reverse, take, drop, length}
use Rattle.std.proofs.{Common.{get_or, refl, sym, ap, subst, ◌∙◌, arith, Some}, lemmas.Bool.{false≢true}}
use Rattle.std.proofs.lemmas.List.{append_assoc, map-append, map_more, reverse-append, take-append-drop, take-map, length-map}
use Rattle.title_land.specs.Depth.{depth}
use Rattle.title_chain.specs.declared.{ask.{Posting.{Posting}, Step.{Step}}, record.Record.{Record}}
use Rattle.title_chain.specs.declared.ask.Ask.TheVariants as ask
use Rattle.title_chain.specs.declared.ask.Answer.TheVariants as answer
use Rattle.title_trace.specs.{declared.call.{Call.{Call}, Request.{Request}, Reply.{Reply}}, Trace.{is_open}, Laws.OneReply.{one_due_reply}}
use Rattle.title_trace.specs.Due.{Setting, DueReply, IsDue}
use Rattle.title_trace.specs.declared.call.Request.TheVariants as request
use Rattle.title_trace.specs.declared.call.Reply.TheVariants as reply
use Rattle.title_desk.specs.{Told.{Books, Told}, Singles.{IsIdle, ToldSingle, after_single, ending, last_reply}, Laws.Calls.{added}}
use Rattle.title_desk.specs.Laws.Calls.{added_single}
use Rattle.title_standing.specs.{declared.deeds.Deeds.{Deeds}, Standing.{asked_by, replayed}, Records.{posted_step, record_of}}
use Rattle.title_standing.specs.Replays.{after_record, begun, GoesOn, Serves, ToldReplay}
use Rattle.title_standing.proofs.Recalled.{open_still, replayed_are_committed, replayed_next}

-- ---- traces that go on

goes_on_from : (first mid last : List Call) → GoesOn first mid → GoesOn mid last → GoesOn first last
goes_on_from first mid last h k =
    (k.0 ++ h.0, k.1 ∙ ap (λ (t : List Call). k.0 ++ t) h.1 ∙ sym (append_assoc k.0 h.0 first))

asked_goes_on : (e : ℕ) (steps : List Step) (before : List Call) → GoesOn before (asked_by e steps before)
asked_goes_on e [] before = ([], refl)
asked_goes_on e (s ∷ earlier) before =
    let call : Call = record { request = request.Step e s.ask; reply = reply.Answered s.answer } in
    let rest = asked_goes_on e earlier before in
    (call ∷ rest.0, ap (λ (t : List Call). call ∷ t) rest.1)

-- where all of some steps are due, so are the earlier ones
due_earlier : (setting : Setting) (e : ℕ) (later earlier : List Step) (before : List Call)
    → IsDue depth setting (asked_by e (later ++ earlier) before) → IsDue depth setting (asked_by e earlier before)
due_earlier setting e [] earlier before due = due
due_earlier setting e (s ∷ later) earlier before due = due_earlier setting e later earlier before due.0

-- ---- a list and its first so many, the newest first

one_more : {A B : Type 0} (f : A → B) (xs : List A) (k : ℕ) (x : A) → k < length xs → x ≡ get_or xs k x →
    reverse (map f (take (k + 1) xs)) ≡ f x ∷ reverse (map f (take k xs))
one_more f xs k x within is =
    ap reverse (map_more f xs k x within) ∙ reverse-append (map f (take k xs)) (f (get_or xs k x) ∷ [])
    ∙ ap (λ y. f y ∷ reverse (map f (take k xs))) (sym is)

up_to : {A B : Type 0} (f : A → B) (xs : List A) (k : ℕ) →
    reverse (map f xs) ≡ reverse (map f (drop k xs)) ++ reverse (map f (take k xs))
up_to f xs k =
    ap (λ ys. reverse (map f ys)) (sym (take-append-drop k xs)) ∙ ap reverse (map-append f (take k xs) (drop k xs))
    ∙ reverse-append (map f (take k xs)) (map f (drop k xs))

-- ---- a post

-- two due replies to a request are one
one_reply : (setting : Setting) (before : List Call) (q : Request) (r s : Reply) → DueReply depth setting before q r
    → DueReply depth setting before q s → r ≡ s
one_reply setting before q r s due too =
    (one_due_reply depth setting before q r).0 due ∙ sym ((one_due_reply depth setting before q s).0 too)

-- what was asked of an open transaction is served, or it isn't due
pub post_served : (old new : Books) (e : ℕ) (p : Posting) (r : Reply) (posted : Bool) → (r ≡ reply.Memory → ⊥)
    → (posted ≡ true) ↔ (r ≡ reply.Answered answer.Posted) → Told old (request.Step e (ask.Post p)) r new →
    (new.setting ≡ old.setting)
    × Serves old.setting old.trace (asked_by e (posted_step p ∷ []) old.trace) new.trace posted
post_served old new e p r true other says told =
    let one = added old new (request.Step e (ask.Post p)) r other told in
    (one.0, one.1 ∙ ap (λ (s : Reply). record { request = request.Step e (ask.Post p); reply = s } ∷ old.trace) (says.0 refl))
post_served old new e p r false other says told =
    let one = added old new (request.Step e (ask.Post p)) r other told in (
      one.0,
      (
        (record { request = request.Step e (ask.Post p); reply = r } ∷ [], one.1),
        λ due. false≢true (says.1 (one_reply old.setting old.trace (request.Step e (ask.Post p)) r
            (reply.Answered answer.Posted) one.2 due.1)),
      ),
    )

-- so is a transaction of one post
pub single_served : (old new : Books) (e : ℕ) (p : Posting) (r : Reply) (posted : Bool) → (r ≡ reply.Memory → ⊥)
    → (posted ≡ true) ↔ (r ≡ reply.Answered answer.Posted) → ToldSingle old e (ask.Post p) r new →
    (new.setting ≡ old.setting)
    × Serves old.setting old.trace (after_record old.trace (record { examiner = e; steps = posted_step p ∷ [] })) new.trace posted
single_served old new e p r true other says told =
    let one = added_single old new e (ask.Post p) r other told in
    (one.0, one.1 ∙ ap (after_single old.trace e (ask.Post p)) (says.0 refl))
single_served old new e p r false other says told =
    let one = added_single old new e (ask.Post p) r other told in
    let step : Call = record { request = request.Step e (ask.Post p); reply = r } in
    let first : Call = record { request = request.Begin e; reply = reply.Began } in (
      one.0,
      (
        (record { request = ending e r; reply = last_reply old.trace r } ∷ step ∷ first ∷ [], one.1),
        λ due. false≢true (says.1 (one_reply old.setting (begun e old.trace) (request.Step e (ask.Post p)) r
            (reply.Answered answer.Posted) one.2.0.1 due.0.1)),
      ),
    )

-- ---- the posts of a transaction, of which the first so many were posted, and the next is asked for

module _ (setting : Setting) (e : ℕ) (posts : List Posting) (k : ℕ) (x copied : Posting) (start mid after : List Call) (posted : Bool)
    (within : k < length posts) (is : x ≡ get_or posts k x) (same : copied ≡ x)
    (so_far : mid ≡ asked_by e (reverse (map posted_step (take k posts))) start)
    (served : Serves setting mid (asked_by e (posted_step copied ∷ []) mid) after posted) where
  next_is : asked_by e (posted_step copied ∷ []) mid ≡ asked_by e (reverse (map posted_step (take (k + 1) posts))) start
  next_is =
      ap (λ (p : Posting). asked_by e (posted_step p ∷ []) mid) same ∙ ap (asked_by e (posted_step x ∷ [])) so_far
      ∙ ap (λ (steps : List Step). asked_by e steps start) (sym (one_more posted_step posts k x within is))

  -- where it isn't due, the posts aren't all due
  pub posts_stop : posted ≡ false → Serves setting start (asked_by e (reverse (map posted_step posts)) start) after false
  posts_stop refused =
      let stops : GoesOn mid after × (IsDue depth setting (asked_by e (posted_step copied ∷ []) mid) → ⊥) =
      subst (λ (b : Bool). Serves setting mid (asked_by e (posted_step copied ∷ []) mid) after b) refused served in
      let front : GoesOn start mid =
      subst (GoesOn start) (sym so_far) (asked_goes_on e (reverse (map posted_step (take k posts))) start) in (
        goes_on_from start mid after front stops.0,
        λ due.
            let all : IsDue depth setting (asked_by e (reverse (map posted_step (drop (k + 1) posts))
            ++ reverse (map posted_step (take (k + 1) posts))) start) =
            subst (λ (steps : List Step). IsDue depth setting (asked_by e steps start)) (up_to posted_step posts (k + 1)) due in
            stops.1 (subst (IsDue depth setting) (sym next_is) (due_earlier setting e (reverse (map posted_step (drop (k + 1) posts)))
            (reverse (map posted_step (take (k + 1) posts))) start all)),
      )

-- ---- a record by its requests

-- its posts aren't all due, so its calls aren't
pub turn_stops : (setting : Setting) (r : Record) (before mid after : List Call) (posted : Bool) → mid ≡ begun r.examiner before
    → Serves setting mid (asked_by r.examiner (reverse r.steps) mid) after posted → posted ≡ false
    → Serves setting before (after_record before r) after false
turn_stops setting r before mid after posted began served refused =
    let stops : GoesOn mid after × (IsDue depth setting (asked_by r.examiner (reverse r.steps) mid) → ⊥) =
    subst (λ (b : Bool). Serves setting mid (asked_by r.examiner (reverse r.steps) mid) after b) refused served in
    let first : Call = record { request = request.Begin r.examiner; reply = reply.Began } in (
      goes_on_from before mid after (first ∷ [], began) stops.0,
      λ due. stops.1 (subst (λ (t : List Call). IsDue depth setting (asked_by r.examiner (reverse r.steps) t)) (sym began) due.0),
    )

posts_are : (setting : Setting) (r : Record) (before mid after : List Call) (posted : Bool) → mid ≡ begun r.examiner before
    → Serves setting mid (asked_by r.examiner (reverse r.steps) mid) after posted → posted ≡ true
    → after ≡ asked_by r.examiner (reverse r.steps) (begun r.examiner before)
posts_are setting r before mid after posted began served held =
    let all : after ≡ asked_by r.examiner (reverse r.steps) mid =
    subst (λ (b : Bool). Serves setting mid (asked_by r.examiner (reverse r.steps) mid) after b) held served in
    all ∙ ap (asked_by r.examiner (reverse r.steps)) began

-- after its posts it is open
pub turn_open : (setting : Setting) (r : Record) (before mid after : List Call) (posted : Bool) → mid ≡ begun r.examiner before
    → Serves setting mid (asked_by r.examiner (reverse r.steps) mid) after posted → posted ≡ true → is_open r.examiner after ≡ true
turn_open setting r before mid after posted began served held =
    ap (is_open r.examiner) (posts_are setting r before mid after posted began served held)
    ∙ open_still r.examiner (reverse r.steps) before

-- ---- records one after another, of which the first so many stand, and the next is served

-- at a trace that serves records nobody is open
pub replay_idle : (deeds : List Deeds) (trace : List Call) → trace ≡ replayed (reverse (map record_of deeds)) → IsIdle trace
replay_idle deeds trace is = subst IsIdle (sym is) (replayed_are_committed (reverse (map record_of deeds))).1

module _ (setting : Setting) (deeds : List Deeds) (k : ℕ) (x : Deeds) (mid after : List Call) (posted : Bool)
    (within : k < length deeds) (is : x ≡ get_or deeds k x) (so_far : mid ≡ replayed (reverse (map record_of (take k deeds))))
    (served : Serves setting mid (after_record mid (record_of x)) after posted) where
  then_is : after_record mid (record_of x) ≡ replayed (reverse (map record_of (take (k + 1) deeds)))
  then_is =
      ap (λ (t : List Call). after_record t (record_of x)) so_far
      ∙ sym (replayed_next (record_of x) (reverse (map record_of (take k deeds))))
      ∙ ap replayed (sym (one_more record_of deeds k x within is))

  -- one more stands
  pub one_more_stands : posted ≡ true → after ≡ replayed (reverse (map record_of (take (k + 1) deeds)))
  one_more_stands held =
      let all : after ≡ after_record mid (record_of x) =
      subst (λ (b : Bool). Serves setting mid (after_record mid (record_of x)) after b) held served in
      all ∙ then_is

  -- or it can't, and this is its place
  pub one_stops : (place : ℕ) → place ≡ k + 1 → posted ≡ false → ToldReplay setting (map record_of deeds) (Some place) after
  one_stops place counted refused =
      let stops : GoesOn mid after × (IsDue depth setting (after_record mid (record_of x)) → ⊥) =
      subst (λ (b : Bool). Serves setting mid (after_record mid (record_of x)) after b) refused served in
      let before : place - 1 ≡ k = omega arith in
      let front : mid ≡ replayed (reverse (take (place - 1) (map record_of deeds))) =
      so_far ∙ ap (λ (rs : List Record). replayed (reverse rs)) (sym (take-map record_of k deeds)
      ∙ ap (λ (n : ℕ). take n (map record_of deeds)) (sym before)) in
      let made : after_record mid (record_of x) ≡ replayed (reverse (take place (map record_of deeds))) =
      then_is ∙ ap (λ (rs : List Record). replayed (reverse rs)) (sym (take-map record_of (k + 1) deeds)
      ∙ ap (λ (n : ℕ). take n (map record_of deeds)) (sym counted)) in
      let many : length (map record_of deeds) ≡ length deeds = length-map deeds record_of in (
        omega arith,
        omega arith,
        subst (λ (t : List Call). GoesOn t after) front stops.0,
        λ due. stops.1 (subst (IsDue depth setting) (sym made) due),
      )
