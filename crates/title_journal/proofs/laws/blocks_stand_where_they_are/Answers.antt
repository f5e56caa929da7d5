use Rattle.std.proofs.Common.{ap, ◌∙◌}
use Rattle.title_journal.{specs.Blocks.{blocks_in}, proofs.{Inverting.{made_of}, Standing.{stands}}}
use Rattle.title_journal.proofs.laws.blocks_stand_where_they_are.Goals as goal

pub returns-clause-read : goal.returns-clause-read
returns-clause-read c file blocks is = ap blocks_in is.parts ∙ stands blocks is.tail is.whole is.ends

pub returns-clause-made : goal.returns-clause-made
returns-clause-made c file blocks stand = made_of file blocks stand
