-- The law is a lemma.
use Rattle.title_standing.proofs.KeptRecords.{kept_are_serial}
use Rattle.title_standing.proofs.laws.kept_records_are_serial.Goals as goal

pub returns : goal.returns
returns c = record { law = kept_are_serial }
