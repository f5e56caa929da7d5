-- What the desk's reply to a transaction of one step is.
use Rattle.std.proofs.Common.{◌≡◌, ◌∙◌, ◌∷◌, ℕ, List, refl, ap, subst}
use Rattle.title_land.specs.Depth.{depth}
use Rattle.title_chain.specs.declared.ask.Ask.{Ask}
use Rattle.title_trace.specs.{declared.call.{Call.{Call}, Request.{Request}, Reply.{Reply}}, Due.{Setting, DueReply, IsDue}}
use Rattle.title_trace.specs.Laws.OneReply.{one_due_reply}
use Rattle.title_trace.specs.declared.call.Request.TheVariants as request
use Rattle.title_trace.specs.declared.call.Reply.TheVariants as reply
use Rattle.title_desk.specs.{Told.{Books}, Singles.{AddedInTurn, ending, in_turn}}
use Rattle.title_script.specs.Served.{after_alone, after_call, reply_to}

-- a call with a due reply is the one after a request
called : (setting : Setting) (before : List Call) (q : Request) (r : Reply) → DueReply depth setting before q r →
    record { request = q; reply = r } ∷ before ≡ after_call setting before q
unfolding after_call reply_to
called setting before q r due =
    ap (λ (s : Reply). record { request = q; reply = s } ∷ before) ((one_due_reply depth setting before q r).0 due)

-- a due reply is the one that is replied
replied : (setting : Setting) (before : List Call) (q : Request) (r : Reply) → DueReply depth setting before q r
    → r ≡ reply_to setting before q
unfolding reply_to
replied setting before q r due = (one_due_reply depth setting before q r).0 due

-- the calls of a transaction of one step, each with the due reply, are those that are asked in turn
due_in_turn : (setting : Setting) (before : List Call) (e : ℕ) (a : Ask) (begun r ended : Reply)
    → IsDue depth setting (in_turn before e a begun r ended) →
    (in_turn before e a begun r ended ≡ after_alone setting before e a)
    × (r ≡ reply_to setting (after_call setting before (request.Begin e)) (request.Step e a))
due_in_turn setting before e a begun r ended due =
    let first : List Call = record { request = request.Begin e; reply = begun } ∷ before in
    let second : List Call = record { request = request.Step e a; reply = r } ∷ first in
    let asks : first ≡ after_call setting before (request.Begin e) = called setting before (request.Begin e) begun due.0.0.1 in
    let told : r ≡ reply_to setting (after_call setting before (request.Begin e)) (request.Step e a) =
    replied setting first (request.Step e a) r due.0.1 ∙ ap (λ (t : List Call). reply_to setting t (request.Step e a)) asks in
    let asked : second ≡ after_call setting (after_call setting before (request.Begin e)) (request.Step e a) =
    called setting first (request.Step e a) r due.0.1 ∙ ap (λ (t : List Call). after_call setting t (request.Step e a)) asks in (
      called setting second (ending e r) ended due.1
          ∙ (λ i. after_call setting (asked i) (ending e (told i))),
      told,
    )

-- a reply other than Memory is the due one, and the trace has the calls
pub asked_alone : (old new : Books) (e : ℕ) (a : Ask) (r : Reply) → AddedInTurn old e a r new →
    (new.setting ≡ old.setting) × (new.trace ≡ after_alone old.setting old.trace e a)
    × (r ≡ reply_to old.setting (after_call old.setting old.trace (request.Begin e)) (request.Step e a))
asked_alone old new e a r one =
    let turn = due_in_turn old.setting old.trace e a one.1 r one.2 (subst (IsDue depth old.setting) one.3 one.4) in
    (one.0, one.3 ∙ turn.0, turn.1)
