-- A transaction of one step where nobody is open: begun, asked and ended, each by the lemma of that call.
use Rattle.std.proofs.Common.{◌≡◌, ◌≢◌, ℕ, suc, true, false, List, [], ◌∷◌, ◌++◌, reverse, refl, ap, ◌∙◌, sym, subst, arith}
use Rattle.std.proofs.Common.{Some, None, length}
use Rattle.std.{specs.Prelude.{nat_le, is_some, Option}, proofs.{Math.Path.{fun_ext}, lemmas.List.{reverse-append, length-reverse}}}
use Rattle.title_land.specs.Depth.{depth}
use Rattle.title_lock.specs.{declared.guards.Entry.{Entry}, Overlaps.{without}}
use Rattle.title_store.specs.{Plants.{Plant, SameContent, plant_effect, refused_in}, Loans.{Loan, IsAmong, IsTaken}}
use Rattle.title_chain.specs.declared.{ask.{Ask.{Ask}, Answer.{Answer}, Posting.{Posting}, Step.{Step}}, record.Record.{Record}}
use Rattle.title_chain.specs.{Alone.{alone}, Overlaps.{overlaps, record_of}}
use Rattle.title_chain.specs.declared.ask.Ask.TheVariants as ask
use Rattle.title_chain.specs.declared.ask.Answer.TheVariants as answer
use Rattle.title_trace.specs.declared.{call.{Call.{Call}, Request.{Request}, Reply.{Reply}}, denial.Denial.{Denial}}
use Rattle.title_trace.specs.{Trace.{is_open, open_steps, committed}, Due.{Setting, most_steps, InTheWay, IsDue}}
use Rattle.title_trace.specs.declared.call.Request.TheVariants as request
use Rattle.title_trace.specs.declared.call.Reply.TheVariants as reply
use Rattle.title_desk.specs.{Opened.{Opened, held, nothing, set}, Images.{is_posted, IsRestored, without_all}}
use Rattle.title_desk.specs.{Keeps.{State, own_of, images_of, Keeps}, Told.{Added, Books, Passes, Stays, Told, entry_of}}
use Rattle.title_desk.specs.Singles.{AddedInTurn, Bars, BrokenOff, IsIdle, Stands, ToldSingle, after_single, ending, in_turn, last_reply}
use Rattle.title_desk.specs.Laws.Calls.{added as call_added, added_single}
use Rattle.title_desk.proofs.States.{told, books_of, keeps_as, keeps_locks, keeps_refused, keeps_began}
use Rattle.title_desk.proofs.Ends.{Gone, gone_newest, nothing_out, keeps_aborted, keeps_committed}
use Rattle.title_desk.proofs.{Found.{at_set, none_from, set_here, set_other}, Steps.{bars_due, keeps_answered, keeps_posted}}

-- an examiner has begun
abbrev begun : ℕ → State → State
begun e s = told (request.Begin e) reply.Began (record s { opened = set e (Some nothing) s.opened })

opened : (s : State) (e : ℕ) → is_some ((begun e s).opened e) ≡ true
opened s e = ap is_some (set_here e (Some nothing) s.opened)

-- the state after a transaction of one step that is answered
abbrev pub after_one : ℕ → Ask → Answer → Plant → State → State
after_one e a given after s = record s {
  trace = after_single s.trace e a (reply.Answered given);
  records = record_of e (record { ask = a; answer = given } ∷ []) ∷ s.records;
  content = after;
}

-- locks that have gone again put nobody in anybody's way
keeps_unlocked : {s t : State} → Keeps s → Keeps t → t.opened ≡ s.opened → Keeps (record t { locks = s.locks })
keeps_unlocked {s} k j same = keeps_locks s.locks (λ a f. k.facts.locks_are a f ∙ ap (λ all. overlaps a (held (all f)).steps) (sym same)
    ∙ sym (j.facts.locks_are a f)) j

-- where nobody is open
module _ {s : State} (k : Keeps s) (shut : IsIdle s.trace) where
  none_open : (f : ℕ) → s.opened f ≡ None
  none_open f = none_from (s.opened f) (k.begun_are f ∙ shut f)

  no_own : (f : ℕ) → own_of s f ≡ []
  no_own f = ap (λ o. (held o).steps) (none_open f)

  -- no image is out
  pub none_out : s.out ≡ []
  none_out = nothing_out k.facts (λ f. ap (λ o. (held o).images) (none_open f))

  -- nobody stands in anybody's way
  pub nobody : (e : ℕ) (a : Ask) → InTheWay s.trace e a None
  nobody e a f ne = ap (overlaps a) (sym (k.steps_are f) ∙ no_own f)

  began : (e : ℕ) → Keeps (begun e s)
  began e = keeps_began e k (k.begun_are e ∙ shut e)

  is_open_now : (e : ℕ) → is_open e (begun e s).trace ≡ true
  is_open_now e = sym ((began e).begun_are e) ∙ opened s e

  -- who has begun has no steps yet, nor has anybody
  no_steps : (e f : ℕ) → open_steps (begun e s).trace f ≡ []
  no_steps e f = sym ((began e).steps_are f) ∙ at_set (λ g o. (held o).steps ≡ []) e (Some nothing) s.opened refl (λ g _. no_own g) f

  -- the ask passes, if it can stand
  passes : (e : ℕ) (a : Ask) → Stands s.setting a → Passes (books_of (begun e s)) e a
  passes e a stands = (
    (is_open_now e, stands.0, stands.1, ap (λ own. nat_le most_steps (length own)) (no_steps e e)),
    λ f ne. ap (overlaps a) (no_steps e f),
  )

  -- what it gets alone, before and after it has begun
  alone_now : (e : ℕ) (a : Ask) (given : Answer) → given ≡ alone depth s.setting.townships (committed s.trace) (open_steps s.trace e) a
      → given ≡ alone depth s.setting.townships (committed s.trace) (open_steps (begun e s).trace e) a
  alone_now e a given is = is ∙ ap (λ own. alone depth s.setting.townships (committed s.trace) own a)
      (sym (k.steps_are e) ∙ no_own e ∙ sym (no_steps e e))

  -- who has ended again has nothing open, whatever was open meanwhile
  as_before : (e : ℕ) (all : ℕ → Option Opened) → ((f : ℕ) → f ≢ e → s.opened f ≡ all f) → s.opened ≡ set e None all
  as_before e all others = fun_ext (at_set (λ f x. s.opened f ≡ x) e None all (none_open e) others)

  -- the step is answered, and the examiner commits
  closed : (e : ℕ) (a : Ask) (given : Answer) (images : List ℕ) (after : Plant) (out : List Loan) (locks : List Entry) →
      Keeps (told (request.Step e a) (reply.Answered given) (record (begun e s) {
        opened = set e (Some (record { steps = record { ask = a; answer = given } ∷ own_of (begun e s) e; images = images }))
            (begun e s).opened;
        content = after;
        out = out;
        locks = locks;
      }))
      → without_all images out ≡ [] → Keeps (after_one e a given after s)
  closed e a given images after out locks j none_left =
      let step : Step = record { ask = a; answer = given } in
      let mine : Option Opened = Some (record { steps = step ∷ own_of (begun e s) e; images = images }) in
      let here : set e mine (begun e s).opened e ≡ mine = set_here e mine (begun e s).opened in
      let own : (held (set e mine (begun e s).opened e)).steps ≡ step ∷ [] =
      ap (λ o. (held o).steps) here ∙ ap (λ o. step ∷ (held o).steps) (set_here e (Some nothing) s.opened) in
      let gone : Gone (held (set e mine (begun e s).opened e)).images images =
      subst (λ o. Gone (held o).images images) (sym here) (gone_newest images) in
      let trace_is = ap (λ rs. record { request = request.Commit e; reply = reply.Committed (suc (length rs)) }
      ∷ record { request = request.Step e a; reply = reply.Answered given } ∷ (begun e s).trace) (sym k.records_are) in
      let others = λ (f : ℕ) (ne : f ≢ e). sym (set_other e mine (begun e s).opened f ne ∙ set_other e (Some nothing) s.opened f ne) in
      let t : State = record (after_one e a given after s) { locks = without e locks } in
      let kept : Keeps t = keeps_as (keeps_committed e images j (ap is_some here) gone) trace_is
      (ap (λ steps. record_of e steps ∷ s.records) (sym own)) (as_before e _ others) refl (λ c. refl) refl
      (none_out ∙ sym none_left) in
      keeps_unlocked k kept refl

  -- a step that posts nothing
  pub keeps_read : (e : ℕ) (a : Ask) (given : Answer) → Stands s.setting a
      → given ≡ alone depth s.setting.townships (committed s.trace) (open_steps s.trace e) a → is_posted a given ≡ false
      → Keeps (after_one e a given s.content s)
  keeps_read e a given stands is unposted = closed e a given (images_of (begun e s) e) s.content s.out (entry_of e a ∷ s.locks)
      (keeps_answered e a given (began e) (passes e a stands) (alone_now e a given is) unposted)
      (ap (λ o. without_all (held o).images s.out) (set_here e (Some nothing) s.opened) ∙ none_out)

  -- a post that is done: its image, which none other stands beside, is let go
  pub keeps_deed : (e : ℕ) (p : Posting) (after : Plant) → Stands s.setting (ask.Post p)
      → refused_in depth s.declared p.instrument s.content p.tract ≡ None →
      SameContent (plant_effect depth s.declared p.instrument s.content p.tract) after
      → Keeps (after_one e (ask.Post p) answer.Posted after s)
  keeps_deed e p after stands h same =
      let new : Loan = record { number = 0; land = p.tract; held = s.content } in
      let taken : IsTaken 0 s.declared p.tract s.content s.out (s.out ++ new ∷ []) = record {
        held = s.content;
        holds = λ c inside. refl;
        above = λ x at. absurd (subst (IsAmong x) none_out at);
        last = refl;
      } in
      closed e (ask.Post p) answer.Posted (0 ∷ images_of (begun e s) e) after (s.out ++ new ∷ []) (entry_of e (ask.Post p) ∷ s.locks)
      (keeps_posted e p 0 after (s.out ++ new ∷ []) (began e) (passes e (ask.Post p) stands) h taken same)
      (ap (λ (o : Option Opened). without_all (0 ∷ (held o).images) (s.out ++ new ∷ [])) (set_here e (Some nothing) s.opened)
      ∙ ap (λ (out : List Loan). without_all (0 ∷ []) (out ++ new ∷ [])) none_out)

  -- the step is refused, and the examiner aborts
  pub keeps_barred : (e : ℕ) (a : Ask) (why : Denial) → Bars s.setting a why
      → Keeps (told (request.Abort e) reply.Aborted (told (request.Step e a) (reply.Denied why) (told (request.Begin e) reply.Began s)))
  keeps_barred e a why bar =
      let denied = keeps_refused (request.Step e a) why (began e) (bars_due (books_of (begun e s)) e a why (is_open_now e) bar) in
      let none : images_of (begun e s) e ≡ [] = ap (λ o. (held o).images) (set_here e (Some nothing) s.opened) in
      let back : IsRestored s.declared (images_of (begun e s) e) s.out s.content s.content =
      subst (λ is. IsRestored s.declared is s.out s.content s.content) (sym none) (λ c. refl) in
      let t : State = told (request.Abort e) reply.Aborted (told (request.Step e a) (reply.Denied why)
      (told (request.Begin e) reply.Began (record s { locks = without e s.locks }))) in
      let kept : Keeps t = keeps_as (keeps_aborted e s.content denied (opened s e) back) refl refl (as_before e _
      (λ f ne. sym (set_other e (Some nothing) s.opened f ne))) refl (λ c. refl) refl (sym (ap (λ is. without_all is s.out) none)) in
      keeps_unlocked k kept refl

-- the calls and the records with those of such a transaction
pub added : {s : State} (records mid records' : List Record) (steps : List Step) (trace : List Call) → Keeps s → (e : ℕ) (a : Ask)
    (given : Answer) → s.records ≡ reverse records → mid ≡ records → steps ≡ record { ask = a; answer = given } ∷ []
    → records' ≡ mid ++ record { examiner = e; steps = steps } ∷ [] →
    trace ≡ in_turn s.trace e a reply.Began (reply.Answered given) (reply.Committed (length records')) →
    (trace ≡ after_single s.trace e a (reply.Answered given))
    × (reverse records' ≡ record_of e (record { ask = a; answer = given } ∷ []) ∷ s.records)
added {s} records mid records' steps trace k e a given are kept own more calls =
    let new : Record = record_of e (record { ask = a; answer = given } ∷ []) in
    let longer_by : records' ≡ records ++ new ∷ [] = more ∙ (λ i. kept i ++ record { examiner = e; steps = own i } ∷ []) in
    let now : reverse records' ≡ new ∷ s.records =
    ap reverse longer_by ∙ reverse-append records (new ∷ []) ∙ ap (λ rs. new ∷ rs) (sym are) in
    let place : length records' ≡ suc (length (committed s.trace)) =
    sym (length-reverse records') ∙ ap length now ∙ ap (λ rs. suc (length rs)) k.records_are in
    (rw place at calls, now)

-- the calls of a transaction of one step are told, if they are due
pub told_single : {b old : Books} {setting : Setting} {trace : List Call} → b ≡ old → (e : ℕ) (a : Ask) (r : Reply) → setting ≡ b.setting
    → trace ≡ after_single b.trace e a r → IsDue depth b.setting (after_single b.trace e a r) →
    (setting ≡ old.setting) × (trace ≡ after_single old.trace e a r) × IsDue depth old.setting (after_single old.trace e a r)
told_single {setting = setting} {trace = trace} is e a r same calls due =
    subst (λ (x : Books). (setting ≡ x.setting) × (trace ≡ after_single x.trace e a r)
    × IsDue depth x.setting (after_single x.trace e a r)) is (same, calls, due)

module _ (old new : Books) (e : ℕ) (a : Ask) where
  -- where nobody is open too its calls are three
  pub any_added : (r : Reply) → ToldSingle old e a r new → r ≢ reply.Memory → AddedInTurn old e a r new
  any_added r told other =
      let all = added_single old new e a r other told in
      (all.0, reply.Began, last_reply old.trace r, all.1, rw all.1 all.2)

  pub none_added : (r : Reply) → ToldSingle old e a r new → r ≡ reply.Memory → BrokenOff old e a new
  none_added r told is = let stays : Stays old new = rw is at told in (stays.0, 2, reply.Began, reply.Began, omega arith, stays.1)

  -- its requests are served one after another
  module _ (one : Books) (begun : Reply) (began : begun ≢ reply.Memory) (first : Told old (request.Begin e) begun one) where
    was : Added old (request.Begin e) begun one
    was = call_added old one (request.Begin e) begun began first

    pub step_wants : Stays one new → BrokenOff old e a new
    step_wants stays = (stays.0 ∙ was.0, 1, begun, reply.Began, omega arith, stays.1 ∙ was.1)

    module _ (two : Books) (r : Reply) (asked : r ≢ reply.Memory) (second : Told one (request.Step e a) r two) where
      both : (two.setting ≡ old.setting)
          × (two.trace ≡ record { request = request.Step e a; reply = r } ∷ record { request = request.Begin e; reply = begun } ∷ old.trace)
      both =
          let s = call_added one two (request.Step e a) r asked second in
          (s.0 ∙ was.0, s.1 ∙ ap (λ (t : List Call). record { request = request.Step e a; reply = r } ∷ t) was.1)

      pub end_wants : Stays two new → BrokenOff old e a new
      end_wants stays = (stays.0 ∙ both.0, 0, begun, r, omega arith, stays.1 ∙ both.1)

      pub all_served : (q : Request) (ended : Reply) → q ≡ ending e r → ended ≢ reply.Memory → Told two q ended new
          → IsDue depth new.setting new.trace → AddedInTurn old e a r new
      all_served q ended is other third due =
          let last = call_added two new q ended other third in
          let same : new.setting ≡ old.setting = last.0 ∙ both.0 in
          (same, begun, ended, last.1 ∙ (λ i. record { request = is i; reply = ended } ∷ both.1 i), rw same at due)
