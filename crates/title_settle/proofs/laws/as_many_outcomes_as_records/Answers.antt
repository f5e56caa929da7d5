-- The outcomes are counted place by place.
use Rattle.title_settle.proofs.Counting.{as_many}
use Rattle.title_settle.proofs.laws.as_many_outcomes_as_records.Goals as goal

pub returns : goal.returns
returns c = record { many = as_many }
