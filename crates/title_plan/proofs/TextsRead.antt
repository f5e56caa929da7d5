-- What texts say.
use Rattle.title_land.specs.Depth.{depth}
use Rattle.title_aliquot.specs.{Reading.{reading}, Laws.{Readings.{gives_the_land, gives_the_fault}, Total.{each_text}}}
use Rattle.title_plan.specs.Lands.{FaultsAreRead, LandsAreRead, land_in}

pub lands_read : LandsAreRead
unfolding land_in
lands_read text l = gives_the_land depth (reading depth each_text) text l

pub faults_read : FaultsAreRead
unfolding land_in
faults_read text f = gives_the_fault depth (reading depth each_text) text f
