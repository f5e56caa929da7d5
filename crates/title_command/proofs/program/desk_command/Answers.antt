-- An option and a flag.
use Rattle.title_command.proofs.program.desk_command.Goals as goal

pub returns : goal.returns
returns c = record {
  app = c.with_argument.ensures.app _ _ c.look_option.ensures.rule
      (c.with_argument-with_plant.ensures.app _ _ c.plant_option.ensures.rule (c.named.ensures.app, c.named.ensures.local));
}
