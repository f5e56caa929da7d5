-- The law is a lemma.
use Rattle.title_land.specs.Laws.CoversDoubled.{cover_doubles as lemma}
use Rattle.title_land.proofs.doubled.cover_doubles.Goals as goal

pub returns : goal.returns
returns c = record { law = lemma }
