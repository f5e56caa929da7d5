-- Two options more, one after the other.
use Rattle.title_command.proofs.program.with_file.Goals as goal

pub returns : goal.returns
returns c = record {
  app = λ a is. c.with_argument.ensures.app _ _ c.after_option.ensures.rule
      (c.with_argument-with_plant.ensures.app _ _ c.plant_option.ensures.rule is);
}
