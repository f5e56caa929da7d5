-- A file and a flag.
use Rattle.title_command.proofs.program.check_command.Goals as goal

pub returns : goal.returns
returns c = record {
  app = c.with_argument.ensures.app _ _ c.script_option.ensures.rule
      (c.with_argument-with_file.ensures.app _ _ c.file_argument.ensures.rule (c.named.ensures.app, c.named.ensures.local));
}
