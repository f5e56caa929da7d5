-- The law is a lemma.
use Rattle.title_land.specs.Laws.CoversDoubled.{meets_doubles as lemma}
use Rattle.title_land.proofs.doubled.meets_doubles.Goals as goal

pub returns : goal.returns
returns c = record { law = lemma }
