-- The law is a lemma.
use Rattle.title_land.specs.Depth.{depth}
use Rattle.title_store.specs.Laws.SheetShows.{sheet_shows_each_cell as lemma}
use Rattle.title_store.proofs.laws.sheet_shows_each_cell.Goals as goal

pub returns : goal.returns
returns c = record { law = lemma depth }
