-- Two options and a flag.
use Rattle.title_command.proofs.program.alone_command.Goals as goal

pub returns : goal.returns
returns c = record { app = c.with_argument.ensures.app _ _ c.look_option.ensures.rule c.work_command.ensures.app }
