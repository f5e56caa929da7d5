-- The law is a lemma.
use Rattle.title_land.specs.Depth.{depth}
use Rattle.title_tree.specs.Laws.CellSquares.{cell_ways_are_whole as lemma}
use Rattle.title_tree.proofs.laws.cell_ways_are_whole.Goals as goal

pub returns : goal.returns
returns c = record { law = lemma depth }
