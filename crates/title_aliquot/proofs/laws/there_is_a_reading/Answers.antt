-- The law of answers gives a reading.
use Rattle.title_land.specs.Depth.{depth}
use Rattle.title_aliquot.specs.{Reading.{reading}, Laws.Total.{each_text}}
use Rattle.title_aliquot.proofs.laws.there_is_a_reading.Goals as goal

pub returns : goal.returns
returns c = record { law = reading depth each_text }
