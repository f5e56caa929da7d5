use Rattle.title_trace.specs.Laws.Law.{committed_serial, open_last}
use Rattle.title_land.specs.Depth.{depth}
use Rattle.title_trace.proofs.laws.committed_transactions_are_serial.Goals as goal

pub returns-clause-committed : goal.returns-clause-committed
returns-clause-committed c = committed_serial depth

pub returns-clause-open_last : goal.returns-clause-open_last
returns-clause-open_last c = open_last depth
