-- The law is a lemma.
use Rattle.title_land.specs.Depth.{depth}
use Rattle.title_tree.specs.Laws.CellSquares.{squares_by_paths as lemma}
use Rattle.title_tree.proofs.laws.squares_by_paths.Goals as goal

pub returns : goal.returns
returns c = record { law = lemma depth }
