-- What was left to show of `read`.
use Rattle.title_aliquot.specs.Laws.Unique.{only_tract, only_fault}
use Rattle.title_aliquot.proofs.describe.read.Goals as goal

pub returns-clause-only : goal.returns-clause-only
returns-clause-only c = λ l d. only_tract c.args.text.now c.tract_of.result c.tract_of.ensures.described c.tract_of.ensures.fault l d

pub returns-clause-only_fault : goal.returns-clause-only_fault
returns-clause-only_fault c = λ f d. only_fault c.args.text.now c.tract_of.result c.tract_of.ensures.described c.tract_of.ensures.fault f d
