use Rattle.title_file.proofs.Doubts.{crashed_meanwhile}
use Rattle.title_file.proofs.laws.crashes_meanwhile_leave_what_stood.Goals as goal

pub returns : goal.returns
returns c = record { crash = crashed_meanwhile }
