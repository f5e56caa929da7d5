use Rattle.title_daybook.proofs.OfRecords.{kept_are_written}
use Rattle.title_daybook.proofs.laws.kept_are_written.Goals as goal

pub returns : goal.returns
returns c = record { law = kept_are_written }
