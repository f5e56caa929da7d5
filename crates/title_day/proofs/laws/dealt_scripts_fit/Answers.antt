-- The laws, by their lemmas.
use Rattle.title_day.proofs.{OfficeCounts.{told_many, told_tallies}, OfficeOrder.{scripts_asked, seats_fit}}
use Rattle.title_day.proofs.laws.dealt_scripts_fit.Goals as goal

pub returns : goal.returns
returns c = record {
  seats = λ office number lines scripts many dealt. seats_fit lines scripts office number many dealt;
  asked = λ lines number scripts many dealt. scripts_asked lines scripts number many dealt;
  tallies = λ lines scripts tallies dealt told. (told_tallies lines 1 scripts tallies dealt told, told_many scripts tallies told);
}
