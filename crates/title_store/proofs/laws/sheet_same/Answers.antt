-- The law is a lemma.
use Rattle.title_store.specs.Laws.SheetLaws.{sheet_same as lemma}
use Rattle.title_store.proofs.laws.sheet_same.Goals as goal

pub returns : goal.returns
returns c = record { law = lemma }
