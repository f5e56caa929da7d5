use Rattle.std.proofs.{Common.{not, ◌==◌, rules}, lemmas.Fn.{filter_same}}
use Rattle.title_plan.proofs.plan.turns.end.Goals as goal

pub returns : goal.returns
returns c = record {
  ended = filter_same _ (λ f. not (f == c.args.examiner)) _ (λ x b f' k. search rules) _ _ c.retain.ensures.filtered;
}
