-- A text is read as what it says.
use Rattle.std.proofs.Common.{sym}
use Rattle.title_plan.proofs.TextsRead.{lands_read, faults_read}
use Rattle.title_plan.proofs.lands.read_tract.Goals as goal

pub returns-in-Ok : goal.returns-in-Ok
returns-in-Ok c = record { said = sym ((lands_read c.args.text.now c.in-Ok.tract).1 c.in-Ok.ensures.described) }

pub returns-in_default : goal.returns-in_default
returns-in_default c = record {
  said = sym ((faults_read c.args.text.now c.in-Err.why).1 (c.in-Err.ensures.fault c.in_default.not-Memory));
}
