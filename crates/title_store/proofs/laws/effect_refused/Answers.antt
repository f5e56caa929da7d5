-- The law is a lemma.
use Rattle.title_store.specs.Laws.EffectLaws.{effect_refused as lemma}
use Rattle.title_store.proofs.laws.effect_refused.Goals as goal

pub returns : goal.returns
returns c = record { law = lemma }
