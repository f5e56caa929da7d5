-- A post that is done is a record; one that is refused is answered.
use Rattle.std.proofs.Common.{◌∙◌, ap, refl, sym, reverse}
use Rattle.title_chain.specs.declared.ask.{Ask.TheVariants.{Post}, Answer.TheVariants.{Posted}}
use Rattle.title_desk.{specs.Images.{is_posted}, proofs.{States.{keeps_as}, Steps.{post_due}}}
use Rattle.title_desk.proofs.Singles.{nobody, none_out, keeps_deed, added, told_single}
use Rattle.title_trace.specs.declared.call.Reply.TheVariants.{Answered}
use Rattle.title_desk.proofs.desk.Desk.post_alone.Goals as goal

pub put_alone-requires-clause-none : goal.put_alone-requires-clause-none
put_alone-requires-clause-none g c = none_out c.self.invariant (rw (← c.self.view_is) at c.requires.idle)

pub invariant_of-self-in_default-put_alone : goal.invariant_of-self-in_default-put_alone
invariant_of-self-in_default-put_alone g c =
    keeps_as c.self.invariant refl (ap reverse c.prepare_post.ensures.records) refl refl c.in_default-put_alone.ensures.err_content
    c.put_alone.ensures.declared
    (c.put_alone.ensures.out ∙ sym (none_out c.self.invariant (rw (← c.self.view_is) at c.requires.idle)))

pub invariant_of-self-in-Refused : goal.invariant_of-self-in-Refused
invariant_of-self-in-Refused g c =
    let h = rw (c.terms-terms.ensures.terms, c.in-Refused.is) at c.in-Ok-put_alone.ensures.put in
    keeps_as c.self.invariant refl (ap reverse c.prepare_post.ensures.records) refl refl h.1 c.put_alone.ensures.declared
    (c.put_alone.ensures.out ∙ sym (none_out c.self.invariant (rw (← c.self.view_is) at c.requires.idle)))

pub answer_alone-requires-clause-idle : goal.answer_alone-requires-clause-idle
answer_alone-requires-clause-idle g c = rw (← c.self.view_is) at c.requires.idle

pub answer_alone-requires-clause-alone : goal.answer_alone-requires-clause-alone
answer_alone-requires-clause-alone g c =
    let h = rw (c.terms-terms.ensures.terms, c.in-Refused.is) at c.in-Ok-put_alone.ensures.put in
    post_due c.args.examiner c.args.posting _ c.self.invariant
    (nobody c.self.invariant (rw (← c.self.view_is) at c.requires.idle) c.args.examiner (Post c.args.posting)) h.0

pub invariant_of-self-2 : goal.invariant_of-self-2
invariant_of-self-2 g c =
    let shut = rw (← c.self.view_is) at c.requires.idle in
    let h = rw (c.terms-terms.ensures.terms, c.in-Done.is) at c.in-Ok-put_alone.ensures.put in
    let new = added _ _ _ _ _ c.self.invariant c.args.examiner (Post c.args.posting) Posted refl
    c.prepare_post.ensures.records c.in-Ok.ensures.steps c.add_done-self-inside.ensures.records c.add_done-self-inside.ensures.calls in
    keeps_as (keeps_deed c.self.invariant shut c.args.examiner c.args.posting _ (rw (← c.self.view_is) at c.requires.stands) h.0
    (rw c.terms-terms.ensures.terms at c.in-Ok-put_alone.ensures.content)) new.0 new.1 refl refl (λ d. refl) c.put_alone.ensures.declared
    (c.put_alone.ensures.out ∙ sym (none_out c.self.invariant shut))

pub returns : goal.returns
returns g c =
    let h = rw (c.terms-terms.ensures.terms, c.in-Done.is) at c.in-Ok-put_alone.ensures.put in
    let new = added _ _ _ _ _ c.self.invariant c.args.examiner (Post c.args.posting) Posted refl
    c.prepare_post.ensures.records c.in-Ok.ensures.steps c.add_done-self-inside.ensures.records c.add_done-self-inside.ensures.calls in
    let k = keeps_deed c.self.invariant (rw (← c.self.view_is) at c.requires.idle) c.args.examiner c.args.posting _
    (rw (← c.self.view_is) at c.requires.stands) h.0 (rw c.terms-terms.ensures.terms at c.in-Ok-put_alone.ensures.content) in
    record { told = told_single c.self.view_is c.args.examiner (Post c.args.posting) (Answered Posted) refl new.0 k.due }
