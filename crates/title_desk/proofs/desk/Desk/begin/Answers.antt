-- A transaction begins.
use Rattle.std.proofs.Common.{refl, ap, sym, ◌∙◌}
use Rattle.title_desk.{specs.Opened.{found}, proofs.{States.{keeps_as, keeps_began}, Steps.{on_bad, on_good}}}
use Rattle.title_desk.proofs.desk.Desk.begin.Goals as goal

pub invariant_of-self : goal.invariant_of-self
invariant_of-self g c =
    let failed = sym c.is_err.ensures.value ∙ c.if-is_err.true in
    keeps_as c.self.invariant refl refl (ap (λ all. found all) (on_bad c.begin.result _ failed c.begin.ensures.err)) refl (λ d. refl)
    refl refl

pub invariant_of-self-2 : goal.invariant_of-self-2
invariant_of-self-2 g c =
    let done = sym c.is_err.ensures.value ∙ c.if-is_err.false in
    keeps_as (keeps_began c.args.examiner c.self.invariant (sym c.contains.ensures.found ∙ c.if-contains.false))
    c.then-self-inside.ensures.then refl (on_good c.begin.result _ done c.begin.ensures.begun) refl (λ d. refl) refl refl
