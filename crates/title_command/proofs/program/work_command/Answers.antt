-- A name with two options.
use Rattle.title_command.proofs.program.work_command.Goals as goal

pub returns : goal.returns
returns c = record { app = c.with_file.ensures.app _ (c.named.ensures.app, c.named.ensures.local) }
