use Rattle.title_plan.proofs.TextsRead.{lands_read, faults_read}
use Rattle.title_plan.proofs.laws.texts_are_read.Goals as goal

pub returns-clause-land : goal.returns-clause-land
returns-clause-land c = lands_read

pub returns-clause-fault : goal.returns-clause-fault
returns-clause-fault c = faults_read
