-- The law meets by covers.
use Rattle.title_land.specs.{Laws.CoversMeet.{meets_by_covers as lemma}, Depth.{depth}}
use Rattle.title_land.proofs.laws.meets_by_covers.Goals as goal

pub returns : goal.returns
returns c = record { law = lemma depth }
