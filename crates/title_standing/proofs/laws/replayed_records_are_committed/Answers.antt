-- The law is a lemma.
use Rattle.title_standing.proofs.Recalled.{replayed_are_committed}
use Rattle.title_standing.proofs.laws.replayed_records_are_committed.Goals as goal

pub returns : goal.returns
returns c = record { law = replayed_are_committed }
