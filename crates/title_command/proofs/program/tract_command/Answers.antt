-- A name and a text.
use Rattle.title_command.proofs.program.tract_command.Goals as goal

pub returns : goal.returns
returns c = record { app = c.with_argument.ensures.app _ _ c.text_argument.ensures.rule (c.named.ensures.app, c.named.ensures.local) }
