-- Slips that stand or don't, and their calls.
use Rattle.std.proofs.Common.{◌≡◌, ◌≤◌, ◌++◌, ℕ, suc, Bool, true, false, Option, None, cond, List, [], ◌∷◌, length, reverse}
use Rattle.std.proofs.{Common.{refl, sym, ap, ◌∙◌, subst}, lemmas.Bool.{eq-eqb}, Math.Nat.{le_refl}}
use Rattle.std.proofs.lemmas.List.{reverse-append, reverse-reverse, length-reverse}
use Rattle.title_land.specs.Depth.{depth}
use Rattle.title_instrument.specs.declared.parts.Cause.{Cause}
use Rattle.title_chain.specs.{declared.{ask.{Ask.{Ask}, Answer.{Answer}, Step.{Step}}, record.Record.{Record}}, Overlaps.{record_of}}
use Rattle.title_chain.specs.Alone.{most_parties, IsSerial}
use Rattle.title_trace.specs.{declared.call.{Call.{Call}, Request.{Request}, Reply.{Reply}}, Trace.{is_open, open_steps, committed}}
use Rattle.title_trace.specs.{Due.{Setting, IsDue, DueReply, DueStep}, Laws.Law.{committed_serial}}
use Rattle.title_trace.specs.declared.call.Request.TheVariants as request
use Rattle.title_trace.specs.declared.call.Reply.TheVariants as reply
use Rattle.title_trace.specs.declared.denial.Denial.TheVariants as denial
use Rattle.title_office.specs.{declared.fault.Fault.{Fault}, Offices.{seeing, receipt_for, with_step, with_steps, having_seen}}
use Rattle.title_office.specs.Offices.{IsServed, IsRefused, refusal_of, SlipState, SeatState, Stands, Falls, Answers, Commits, IsLast}
use Rattle.title_office.proofs.Replies.{added, committed_at}
use Rattle.title_office.specs.declared.fault.Fault.TheVariants as fault
use Rattle.title_views.specs.Views.{Shows}

abbrev pub call : Request → Reply → Call
call q r = record { request = q; reply = r }

not_open_due : (setting : Setting) (before : List Call) (e : ℕ) (a : Ask) (begun inside : Bool) (cause : Option Cause) (full : Bool)
    → begun ≡ false → DueStep depth setting before e a (reply.Denied denial.NotOpen) begun inside cause full
not_open_due setting before e a false inside cause full is = refl
not_open_due setting before e a true inside cause full is = absurd (cc is)

-- where a slip isn't its examiner's open transaction, its step is refused as told
pub falls_at_step : (setting : Setting) (slip : SlipState) (before : List Call) (Holds : List Call → Type 0) (a : Ask) (why : Fault)
    → IsDue depth setting before → Falls slip before why
    → IsRefused setting Holds (request.Step slip.seat.examiner a) why
falls_at_step setting slip before Holds a (fault.Denied denial.NotOpen) due falls =
    (before, (due, not_open_due setting before slip.seat.examiner a _ _ _ _ falls))
falls_at_step setting slip before Holds a fault.Stranger due falls = tt
falls_at_step setting slip before Holds a _ due falls = absurd falls

-- and so is its commit
pub falls_at_commit : (setting : Setting) (slip : SlipState) (before : List Call) (Holds : List Call → Type 0) (why : Fault)
    → IsDue depth setting before → Falls slip before why
    → IsRefused setting Holds (request.Commit slip.seat.examiner) why
falls_at_commit setting slip before Holds (fault.Denied denial.NotOpen) due falls =
    (before, (due, ap (λ b. cond b (reply.Committed (suc (length (committed before)))) (reply.Denied denial.NotOpen)) (sym falls)))
falls_at_commit setting slip before Holds fault.Stranger due falls = tt
falls_at_commit setting slip before Holds _ due falls = absurd falls

-- a commit that nothing refuses
pub commits : (setting : Setting) (slip : SlipState) (before after : List Call) (r : Reply) (place : ℕ) (rec : Record) (receipt : Shows)
    (seat : SeatState) → setting.parties ≤ most_parties → IsDue depth setting before
    → IsServed setting before (request.Commit slip.seat.examiner) r after → refusal_of r ≡ None → Stands slip before
    → slip.rec.examiner ≡ slip.seat.examiner → place ≡ length receipt.front → receipt ≡ receipt_for slip.seat after
    → rec ≡ slip.rec → seat ≡ record slip.seat { seen = place } → Commits setting slip place rec receipt seat
commits setting slip before after r place rec receipt seat few due served none stands own count given same left =
    let e = slip.seat.examiner in
    let a = added setting before after (request.Commit e) r served none in
    let is = committed_at setting before e r a.1 none in
    let now : List Call = record { request = request.Commit e; reply = reply.Committed (suc (length (committed before))) } ∷ before in
    let grown : after ≡ now = a.0 ∙ ap (λ (s : Reply). call (request.Commit e) s ∷ before) is in
    let fronts : receipt.front ≡ reverse (committed now) =
    ap (λ (s : Shows). s.front) given ∙ ap (λ t. reverse (committed t)) grown in
    let at : place ≡ suc (length (committed before)) = count ∙ ap length fronts ∙ length-reverse (committed now) in
    let last : IsDue depth setting now = (due, subst (DueReply depth setting before (request.Commit e)) is a.1) in
    let steps : reverse (open_steps before e) ≡ slip.rec.steps = ap reverse stands.1 ∙ reverse-reverse slip.rec.steps in
    let whole : record_of e (open_steps before e) ≡ slip.rec = λ i. record { examiner = sym own i; steps = steps i } in
    let own_record : record_of e (open_steps before e) ≡ rec = whole ∙ sym same in
    let shown : List Record → Shows = λ done. record { number = slip.seat.number; front = reverse done } in (
      before,
      subst (λ n. IsDue depth setting (record { request = request.Commit e; reply = reply.Committed n } ∷ before)) (sym at) last,
      stands,
      at,
      same,
      subst (λ r. IsSerial depth setting.townships (r ∷ committed before)) own_record (committed_serial depth setting few now last),
      given ∙ ap (λ t. shown (committed t)) grown ∙ ap (λ (y : Record). shown (y ∷ committed before)) own_record,
      left,
    )

-- ---- what is open after a call

-- a slip without steps
abbrev pub begun_with : SeatState → ℕ → Shows → SlipState
begun_with seat count receipt = record {
  seat = record seat { seen = count };
  rec = record { examiner = seat.examiner; steps = [] };
  receipt = receipt;
}

-- a slip that was begun with a receipt of what is committed
pub begun : (before : List Call) (seat : SeatState) (receipt : Shows) → receipt ≡ receipt_for seat before
    → begun_with seat (length receipt.front) receipt ≡ begun_with seat (length (committed before)) (receipt_for seat before)
begun before seat receipt is =
    ap (λ (q : Shows). begun_with seat (length q.front) q) is
    ∙ ap (λ (n : ℕ). begun_with seat n (receipt_for seat before)) (length-reverse (committed before))

-- an examiner who has begun stands
pub stands_begun : (before after : List Call) (seat : SeatState) (slip : SlipState)
    → after ≡ record { request = request.Begin seat.examiner; reply = reply.Began } ∷ before
    → slip ≡ record {
      seat = seeing seat before;
      rec = record { examiner = seat.examiner; steps = [] };
      receipt = receipt_for seat before;
    } → Stands slip after
stands_begun before after seat slip grown is =
    let e = seat.examiner in
    let now : List Call = record { request = request.Begin e; reply = reply.Began } ∷ before in
    subst (λ t. Stands slip t) (sym grown) (subst (λ s. Stands s now) (sym is) (
      ap (λ b. cond b true (is_open e before)) (eq-eqb e e refl),
      ap (λ b. cond b [] (open_steps before e)) (eq-eqb e e refl),
      le_refl _,
    ))

-- a slip with one more answer stands
pub stands_answered : (before after : List Call) (slip : SlipState) (a : Ask) (given : Answer) → Stands slip before
    → after ≡ record { request = request.Step slip.seat.examiner a; reply = reply.Answered given } ∷ before
    → Stands (with_step slip before a given) after
stands_answered before after slip a given stands grown =
    let e = slip.seat.examiner in
    let step : Step = record { ask = a; answer = given } in
    subst (λ t. Stands (with_step slip before a given) t) (sym grown) (
      stands.0,
      ap (λ b. cond b (step ∷ open_steps before e) (open_steps before e)) (eq-eqb e e refl) ∙ ap (λ (l : List Step). step ∷ l) stands.1
          ∙ sym (reverse-append slip.rec.steps (step ∷ [])),
      le_refl _,
    )

-- a step that is answered
pub answers : (setting : Setting) (before after : List Call) (slip slip' : SlipState) (a : Ask) (n : ℕ) (given : Answer)
    → n ≡ slip.seat.examiner → IsLast setting before (request.Step n a) (reply.Answered given)
    → after ≡ call (request.Step n a) (reply.Answered given) ∷ before → Stands slip before → slip' ≡ with_step slip before a given
    → Answers setting slip a slip' × Stands slip' after
answers setting before after slip slip' a n given own last grown stands is =
    let mine = subst (λ k. IsLast setting before (request.Step k a) (reply.Answered given)) own last in
    let grown' = subst (λ k. after ≡ call (request.Step k a) (reply.Answered given) ∷ before) own grown in (
      (before, given, mine, stands, is),
      subst (λ s. Stands s after) (sym is) (stands_answered before after slip a given stands grown'),
    )

-- the slip after its steps were taken out and put back
pub put_back : (s0 s1 s2 : SlipState) (own : List Step) → s1 ≡ with_steps s0 [] → s2 ≡ with_steps s1 own → s2 ≡ with_steps s0 own
put_back s0 s1 s2 own emptied filled = filled ∙ ap (λ (s : SlipState). with_steps s own) emptied

-- and after its seat has seen the records
pub with_answer : (s0 s2 s3 : SlipState) (before : List Call) (a : Ask) (given : Answer) (own : List Step) (receipt : Shows)
    → own ≡ s0.rec.steps ++ record { ask = a; answer = given } ∷ [] → receipt ≡ receipt_for s0.seat before
    → s2 ≡ with_steps s0 own → s3 ≡ having_seen s2 receipt → s3 ≡ with_step s0 before a given
with_answer s0 s2 s3 before a given own receipt grown is filled seen =
    let shows = receipt_for s0.seat before in
    let counted : ℕ → SlipState = λ n. record {
      seat = record s0.seat { seen = n };
      rec = record { examiner = s0.rec.examiner; steps = s0.rec.steps ++ record { ask = a; answer = given } ∷ [] };
      receipt = shows;
    } in
    seen ∙ ap (λ (s : SlipState). having_seen s receipt) filled ∙ ap (λ (q : Shows). having_seen (with_steps s0 own) q) is
    ∙ ap (λ (l : List Step). having_seen (with_steps s0 l) shows) grown ∙ ap counted (length-reverse (committed before))

-- who has committed has nothing open
pub shut_committed : (setting : Setting) (before after : List Call) (r : Reply) (e : ℕ) → IsServed setting before (request.Commit e) r after
    → refusal_of r ≡ None → is_open e after ≡ false
shut_committed setting before after r e served none =
    let a = added setting before after (request.Commit e) r served none in
    let is = committed_at setting before e r a.1 none in
    ap (is_open e) (a.0 ∙ ap (λ (s : Reply). call (request.Commit e) s ∷ before) is)
    ∙ ap (λ b. cond b false (is_open e before)) (eq-eqb e e refl)

-- nor has who was aborted
pub shut_aborted : (setting : Setting) (before after : List Call) (r : Reply) (e : ℕ) → IsServed setting before (request.Abort e) r after
    → r ≡ reply.Aborted → is_open e after ≡ false
shut_aborted setting before after r e served is =
    ap (is_open e) (subst (λ s. IsServed setting before (request.Abort e) s after) is served).0
    ∙ ap (λ b. cond b false (is_open e before)) (eq-eqb e e refl)
