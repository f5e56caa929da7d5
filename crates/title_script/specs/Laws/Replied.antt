-- What the desk's reply to a request is, and the trace after it.
use Rattle.std.proofs.Common.{◌≡◌, ◌∙◌, ◌∷◌, ap}
use Rattle.title_land.specs.Depth.{depth}
use Rattle.title_trace.specs.{declared.call.{Request.{Request}, Reply.{Reply}}, Laws.OneReply.{one_due_reply}}
use Rattle.title_trace.specs.declared.call.Reply.TheVariants as reply
use Rattle.title_desk.specs.{Told.{Books, Told}, Laws.Calls.{added}}
use Rattle.title_script.specs.Served.{after_call, reply_to}

-- a reply other than Memory is the due one, and the trace has the call
pub asked : (old new : Books) (q : Request) (r : Reply) → (r ≡ reply.Memory → ⊥) → Told old q r new →
    (new.setting ≡ old.setting) × (new.trace ≡ after_call old.setting old.trace q) × (r ≡ reply_to old.setting old.trace q)
unfolding after_call reply_to
asked old new q r other told =
    let a = added old new q r other told in
    let due = (one_due_reply depth old.setting old.trace q r).0 a.2 in
    (a.0, a.1 ∙ ap (λ (s : Reply). record { request = q; reply = s } ∷ old.trace) due, due)
