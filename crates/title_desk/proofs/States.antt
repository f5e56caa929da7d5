-- States of a desk that look the same, and where a call stands in the trace.
use Rattle.std.proofs.{Common.{◌≡◌, ℕ, true, false, cond, List, [], ◌∷◌, refl, ap, ◌∙◌, sym, subst, eqb, Some, None}, Math.Path.{fun_ext}}
use Rattle.std.specs.Prelude.{is_some, Option}
use Rattle.title_land.specs.{declared.survey.Township.{Township}, Depth.{depth}}
use Rattle.title_store.specs.{Plants.{Plant, SameContent}, Loans.{Loan}, Laws.Taken.{case_eqb}}
use Rattle.title_lock.specs.{declared.guards.Entry.{Entry}, Overlaps.{against}}
use Rattle.title_chain.specs.{declared.{ask.Ask.{Ask}, record.Record.{Record}}, Asks.{tract_of, is_post}, Alone.{after_steps}}
use Rattle.title_chain.specs.Overlaps.{overlaps}
use Rattle.title_trace.specs.{declared.{call.{Call.{Call}, Request.{Request}, Reply.{Reply}}, denial.Denial.{Denial}}, Due.{DueReply}}
use Rattle.title_desk.{specs.{Images.{Backed, IsOf, posted_at}, Opened.{Opened, held, nothing, set}}, proofs.Found.{none_from, view_cond}}
use Rattle.title_desk.specs.{Headline.{ShowsOpenPosts, ShowsCommitted}, Told.{Books}, Keeps.{State, plant_of, Facts, Keeps}}
use Rattle.title_trace.specs.declared.call.Request.TheVariants as request
use Rattle.title_trace.specs.declared.call.Reply.TheVariants as reply

-- what a caller sees of a state
abbrev pub books_of : State → Books
books_of s = record { setting = s.setting; trace = s.trace; is_ready = false; prepared = None }

-- the state with a call more on its trace
abbrev pub told : Request → Reply → State → State
told q r s = record s { trace = record { request = q; reply = r } ∷ s.trace }

-- the state with these parts
abbrev pub with_parts : State → List Call → List Record → (ℕ → Option Opened) → List Entry → Plant → List Township → List Loan → State
with_parts s trace records opened locks content declared out = record s {
  trace = trace;
  records = records;
  opened = opened;
  content = content;
  declared = declared;
  out = out;
  locks = locks;
}

-- parts that are the same make no other state
pub keeps_as : {s : State} {trace : List Call} {records : List Record} {opened : ℕ → Option Opened} {locks : List Entry} {content : Plant}
    {declared : List Township} {out : List Loan} → Keeps s → trace ≡ s.trace → records ≡ s.records → opened ≡ s.opened → locks ≡ s.locks
    → SameContent s.content content → declared ≡ s.declared → out ≡ s.out
    → Keeps (with_parts s trace records opened locks content declared out)
keeps_as {s} k calls done looks entries same townships images =
    subst Keeps (λ i. sym (λ j. with_parts s (calls j) (done j) (looks j) (entries j) (fun_ext same j) (townships j) (images j)) i) k

-- the facts say nothing of the trace, of what is open only what is held, and of the locks only who is in whose way
pub facts_of : {s : State} (trace : List Call) (opened : ℕ → Option Opened) (locks : List Entry)
    → ((f : ℕ) → held (opened f) ≡ held (s.opened f)) →
    ((a : Ask) (f : ℕ) → against (tract_of a) (is_post a) f locks ≡ against (tract_of a) (is_post a) f s.locks) → Facts s →
    Facts (record s { trace = trace; opened = opened; locks = locks })
facts_of {s} trace opened locks same entries facts = record {
  locks_are = λ a f. entries a f ∙ facts.locks_are a f ∙ ap (λ (x : Opened). overlaps a x.steps) (sym (same f));
  backed = λ f. subst (λ (x : Opened). Backed s.out s.declared (plant_of s) x.steps x.images) (sym (same f)) (facts.backed f);
  numbers = λ f g n at bt. facts.numbers f g n (subst (λ (x : Opened). IsOf n x.images) (same f) at)
      (subst (λ (x : Opened). IsOf n x.images) (same g) bt);
  owned = λ b at. let owner = facts.owned b at in (owner.0, subst (λ (x : Opened). IsOf b.number x.images) (sym (same owner.0)) owner.1);
  posted = λ f c. subst (λ (x : Opened). posted_at s.declared c x.steps ≡ true
      → s.content c ≡ after_steps depth s.declared (plant_of s) x.steps c) (sym (same f)) (facts.posted f c);
  rest = λ c none. facts.rest c (λ f. subst (λ (x : Opened). posted_at s.declared c x.steps ≡ false) (same f) (none f));
}

-- other locks that put the same in whose way
pub keeps_locks : {s : State} (locks : List Entry) →
    ((a : Ask) (f : ℕ) → against (tract_of a) (is_post a) f locks ≡ against (tract_of a) (is_post a) f s.locks) → Keeps s →
    Keeps (record s { locks = locks })
keeps_locks {s} locks same k = record {
  few = k.few;
  due = k.due;
  declared_are = k.declared_are;
  records_are = k.records_are;
  begun_are = k.begun_are;
  steps_are = k.steps_are;
  facts = facts_of s.trace s.opened locks (λ f. refl) same k.facts;
}

-- a denial that is due changes nothing but the trace: nobody begins, ends or gets a step
pub keeps_refused : {s : State} (q : Request) (why : Denial) → Keeps s → DueReply depth s.setting s.trace q (reply.Denied why)
    → Keeps (told q (reply.Denied why) s)
keeps_refused {s} q why k due = record {
  few = k.few;
  due = (k.due, due);
  declared_are = k.declared_are;
  records_are = k.records_are;
  begun_are = k.begun_are;
  steps_are = k.steps_are;
  facts = facts_of _ s.opened s.locks (λ f. refl) (λ a f. refl) k.facts;
}

-- an examiner begins
pub keeps_began : {s : State} (e : ℕ) → Keeps s → is_some (s.opened e) ≡ false
    → Keeps (told (request.Begin e) reply.Began (record s { opened = set e (Some nothing) s.opened }))
keeps_began {s} e k shut = record {
  few = k.few;
  due = (k.due, rw (sym (k.begun_are e) ∙ shut) refl);
  declared_are = k.declared_are;
  records_are = k.records_are;
  begun_are = λ f. view_cond is_some (eqb f e) (Some nothing) (s.opened f) ∙ ap (cond (eqb f e) true) (k.begun_are f);
  steps_are = λ f. view_cond (λ o. (held o).steps) (eqb f e) (Some nothing) (s.opened f) ∙ ap (cond (eqb f e) []) (k.steps_are f);
  facts = facts_of _ _ s.locks (λ f. case_eqb (λ b. held (cond b (Some nothing) (s.opened f)) ≡ held (s.opened f)) f e
      (λ same. sym (ap (λ g. held (s.opened g)) same ∙ ap held (none_from (s.opened e) shut))) (λ _. refl)) (λ a f. refl) k.facts;
}

-- what stands in the store, by the trace
pub shown : {s : State} → Keeps s → ShowsOpenPosts s.setting.townships s.trace s.content
    × ShowsCommitted s.setting.townships s.trace s.content
shown {s} k = (
  λ e c. rw (sym k.declared_are, sym k.records_are, sym (k.steps_are e)) (k.facts.posted e c),
  λ c none. rw (sym k.declared_are, sym k.records_are) (k.facts.rest c (λ e. rw (k.declared_are, k.steps_are e) (none e))),
)
