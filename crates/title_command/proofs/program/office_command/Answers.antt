-- Four options, one after the other.
use Rattle.title_command.proofs.program.office_command.Goals as goal

pub returns : goal.returns
returns c = record {
  app = c.with_file.ensures.app _ (c.with_argument-with_tries.ensures.app _ _ c.number_option-2.ensures.rule
      (c.with_argument-with_examiners.ensures.app _ _ c.number_option.ensures.rule (c.named.ensures.app, c.named.ensures.local)));
}
