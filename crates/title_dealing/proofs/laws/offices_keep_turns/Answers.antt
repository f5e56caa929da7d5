-- A script is one on top of nothing.
use Rattle.std.proofs.Common.{◌∙◌}
use Rattle.title_plan.specs.Onto.{nothing_before}
use Rattle.title_plan.specs.declared.line.Schedule.TheVariants as schedule
use Rattle.title_dealing.proofs.laws.offices_keep_turns.Goals as goal

pub returns : goal.returns
returns c = record {
  law = λ number bytes asked is.
      c.offices_keep_turns_onto.ensures.law number nothing_before bytes asked
      (c.onto_nothing.ensures.alone (schedule.Office number) bytes ∙ is);
}
