-- The law is a lemma.
use Rattle.title_script.proofs.ServedLaws.{rows_in_order}
use Rattle.title_script.proofs.laws.rows_stand_in_order.Goals as goal

pub returns : goal.returns
returns c = record { law = rows_in_order }
