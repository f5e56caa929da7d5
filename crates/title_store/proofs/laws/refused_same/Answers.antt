-- The law is a lemma.
use Rattle.title_store.specs.Laws.EffectLaws.{refused_same as lemma}
use Rattle.title_store.proofs.laws.refused_same.Goals as goal

pub returns : goal.returns
returns c = record { law = lemma }
