-- The first other examiner in the way is the least.
use Rattle.std.proofs.Common.{subst, ◌∙◌, sym, refl}
use Rattle.title_lock.proofs.FirstLaws.{Carries, carries_on, carries_least, carries_none}
use Rattle.title_lock.proofs.slots.search.Goals.{else-in_way-via-then-in_way+else-other-examiner, else-in_way-via-else-in_way}
use Rattle.title_lock.proofs.slots.search.Goals as goal

pub loop-other-init : goal.loop-other-init
loop-other-init c =
    let start = c.into_iter-other-iterator.ensures.into_iter_gives in
    rw start.0 (start.5, λ f o. refl)

pub returns-then-other-examiner : goal.returns-then-other-examiner
returns-then-other-examiner c =
    let entries = c.args.modes.now.entries in
    let carries = subst (λ rest. Carries c.args.wanted entries rest c.args.examiner) c.in-Some.ensures.steps c.loop-other.invariant in
    record {
      least = carries_least c.args.wanted entries c.in-Some.other.now c.in-Some.held.now c.next.new.self c.args.examiner
          c.if-other-examiner.true (sym c.clashes-in_way.ensures.clashes ∙ c.if-in_way.true) carries;
    }

pub loop-other-preserved : goal.loop-other-preserved
loop-other-preserved c =
    let entries = c.args.modes.now.entries in
    let carries = subst (λ rest. Carries c.args.wanted entries rest c.args.examiner) c.in-Some.ensures.steps c.loop-other.invariant in
    carries_on c.args.wanted entries c.in-Some.other.now c.in-Some.held.now c.next.new.self c.args.examiner
    (λ o. elim c.else-in_way.branch [
      | else-in_way-via-then-in_way+else-other-examiner w ↦ absurd (o w.if-other-examiner.false)
      | else-in_way-via-else-in_way w ↦ sym c.clashes-in_way.ensures.clashes ∙ w.if-in_way.false
    ]) carries

pub returns : goal.returns
returns c =
    let entries = c.args.modes.now.entries in
    record {
      least = carries_none c.args.wanted entries c.args.examiner
          (subst (λ rest. Carries c.args.wanted entries rest c.args.examiner) c.in-None.ensures.steps.0 c.loop-other.invariant);
    }
