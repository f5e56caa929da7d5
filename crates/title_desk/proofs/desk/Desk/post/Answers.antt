-- A post is added with its lock and its image, or answered as refused, or all stays as it was.
use Rattle.std.proofs.Common.{None, refl, ◌∙◌, subst}
use Rattle.title_land.specs.Depth.{depth}
use Rattle.title_store.specs.{Plants.{SameContent}, Laws.Taken.{image_out, image_last, taken_back, taken_out}}
use Rattle.title_chain.specs.declared.ask.{Ask.TheVariants.{Post}, Answer.TheVariants.{Posted}}
use Rattle.title_desk.{specs.Images.{put_back}, proofs.{States.{keeps_as}, Steps.{due_alone, post_due, keeps_posted}}}
use Rattle.title_store.specs.Laws.EffectLaws as store
use Rattle.title_desk.proofs.desk.Desk.post.Goals as goal

pub invariant_of-self-in-Refused : goal.invariant_of-self-in-Refused
invariant_of-self-in-Refused g c =
    let h = rw (c.terms-terms.ensures.terms, c.in-Refused.is) at c.in-Ok-put.ensures.put in
    keeps_as c.self.invariant refl refl refl refl (λ d. (rw c.terms-terms.ensures.terms at c.in-Ok-put.ensures.content) d
    ∙ store.effect_refused depth (g.S.Store.declared c.self.inside.store) c.args.posting.instrument c.args.posting.tract
    (g.S.Store.content c.self.inside.store) d _ h.0) c.in-Ok-put.ensures.declared h.1

pub add_answer-requires-clause-alone : goal.add_answer-requires-clause-alone
add_answer-requires-clause-alone g c =
    let h = rw (c.terms-terms.ensures.terms, c.in-Refused.is) at c.in-Ok-put.ensures.put in
    post_due c.args.examiner c.args.posting _ c.self.invariant (rw (← c.self.view_is) at c.requires.passes).1 h.0

pub add_post-requires : goal.add_post-requires
add_post-requires g c =
    let passes = rw (← c.self.view_is) at c.requires.passes in
    record { opened = c.self.invariant.begun_are c.args.examiner ∙ passes.0.0 }

pub restore-requires : goal.restore-requires
restore-requires g c =
    let h = rw (c.terms-terms.ensures.terms, c.in-Done.is) at c.in-Ok-put.ensures.put in
    rw c.in-Err.ensures.back record { out = image_out h.1; last = image_last h.1 }

pub invariant_of-self-in-Err : goal.invariant_of-self-in-Err
invariant_of-self-in-Err g c =
    let h = rw (c.terms-terms.ensures.terms, c.in-Done.is) at c.in-Ok-put.ensures.put in
    let mid = g.S.Store.content c.put.new.self in
    let after = g.S.Store.content c.restore.new.self in
    let back = rw c.in-Err.ensures.back at c.restore.ensures.content in
    let same : SameContent (g.S.Store.content c.self.inside.store) after =
    taken_back h.1 c.args.posting.instrument mid after
    (rw c.terms-terms.ensures.terms at c.in-Ok-put.ensures.content)
    (λ b lent. subst (λ ts. SameContent (put_back ts b mid) after) c.in-Ok-put.ensures.declared (back b lent)) in
    keeps_as c.self.invariant refl refl c.in-Err.ensures.err refl same
    (c.restore.ensures.declared ∙ c.in-Ok-put.ensures.declared)
    (rw c.in-Err.ensures.back at c.restore.ensures.out ∙ taken_out h.1)

pub invariant_of-self-2 : goal.invariant_of-self-2
invariant_of-self-2 g c =
    let h = rw (c.terms-terms.ensures.terms, c.in-Done.is) at c.in-Ok-put.ensures.put in
    keeps_as (keeps_posted c.args.examiner c.args.posting (g.S.Store.number c.in-Done.image) (g.S.Store.content c.put.new.self)
    (g.S.Store.out c.put.new.self) c.self.invariant (rw (← c.self.view_is) at c.requires.passes) h.0 h.1
    (rw c.terms-terms.ensures.terms at c.in-Ok-put.ensures.content)) c.then-self-inside.ensures.then refl
    (rw c.in-Ok.ensures.copy at c.in_default-add_post.ensures.added) c.lock.ensures.locked (λ d. refl) c.in-Ok-put.ensures.declared refl

pub returns : goal.returns
returns g c =
    let h = rw (c.terms-terms.ensures.terms, c.in-Done.is) at c.in-Ok-put.ensures.put in
    let passes = rw (← c.self.view_is) at c.requires.passes in
    rw (← c.self.view_is) record {
      told = (
        refl,
        c.then-self-inside.ensures.then,
        due_alone c.args.examiner (Post c.args.posting) Posted c.self.invariant passes
            (post_due c.args.examiner c.args.posting None c.self.invariant passes.1 h.0),
      );
    }
