-- The law is a lemma.
use Rattle.title_land.specs.Depth.{depth}
use Rattle.title_store.proofs.Refusals.{refused_at_the_first as lemma}
use Rattle.title_store.proofs.laws.refused_at_the_first.Goals as goal

pub returns : goal.returns
returns c = record { law = lemma depth }
