-- What was left to show of `part`.
use Rattle.std.proofs.Common.{◌∙◌, ◌++◌, List, [], ◌∷◌, length, sym, ap, arith, length-append}
use Rattle.title_land.specs.declared.rectangle.Step.{Step}
use Rattle.title_aliquot.{specs.Entries.{with_step}, proofs.{Entries.{with_step-length}, Loops.{part_begins, steps_from, steps_next}}}
use Rattle.title_aliquot.proofs.reader.Reader.part.Goals as goal

pub steps-init : goal.steps-init
steps-init c =
    let begun = c.in_ok-begin.ensures.begun in
    let first = c.in_ok-first.first in
    let pushed = c.in_ok-push.ensures.pushed ∙ ap (λ (z : List (List Step)). with_step z first) begun in
    let long = ap (λ (z : List (List Step)). length z) pushed ∙ with_step-length (c.args.parts.now ++ [] ∷ []) first in
    record {
      begun = omega (arith, long, length-append c.args.parts.now ([] ∷ []));
      read = part_begins c.args.parts.now c.args.self.now first c.step.new.self c.in_ok-first.ensures.read
          ∙ ap (λ (z : List (List Step)). steps_from z c.step.new.self) (sym pushed);
    }

pub steps-preserved : goal.steps-preserved
steps-preserved c =
    let pushed = c.in_ok-push-2.ensures.pushed in
    let long = ap (λ (z : List (List Step)). length z) pushed ∙ with_step-length c.steps.parts c.in_ok-step.step in
    let starts = sym c.starts.ensures.starts ∙ c.steps-test.true in
    record {
      begun = omega (arith, long, c.steps.invariant.begun);
      read = c.steps.invariant.read
          ∙ steps_next c.steps.parts c.steps.self c.in_ok-step.step c.joined.new.self starts c.in_ok-step.ensures.read
          ∙ ap (λ (z : List (List Step)). steps_from z c.joined.new.self) (sym pushed);
    }
