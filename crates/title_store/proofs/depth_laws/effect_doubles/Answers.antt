-- The law is a lemma.
use Rattle.title_store.proofs.PostsDoubled.{effect_doubles as lemma}
use Rattle.title_store.proofs.depth_laws.effect_doubles.Goals as goal

pub returns : goal.returns
returns c = record { law = lemma }
