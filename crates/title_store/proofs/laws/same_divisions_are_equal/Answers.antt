-- The law is a lemma.
use Rattle.title_store.specs.Laws.SheetLaws.{same_divisions_are_equal as lemma}
use Rattle.title_store.proofs.laws.same_divisions_are_equal.Goals as goal

pub returns : goal.returns
returns c = record { law = lemma }
