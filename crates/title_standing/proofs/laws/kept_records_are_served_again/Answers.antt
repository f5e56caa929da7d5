-- The laws are lemmas.
use Rattle.title_standing.proofs.AnotherDay.{committed_are_served, serial_are_served}
use Rattle.title_standing.proofs.laws.kept_records_are_served_again.Goals as goal

pub returns-clause-serial : goal.returns-clause-serial
returns-clause-serial c = serial_are_served

pub returns-clause-committed : goal.returns-clause-committed
returns-clause-committed c = committed_are_served
