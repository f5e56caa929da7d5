-- The law is a lemma.
use Rattle.title_lasting.specs.Laws.CellsSaid.{described_have_cells}
use Rattle.title_lasting.proofs.ByDeclared.{go_by_declared}
use Rattle.title_lasting.proofs.laws.reports_go_by_declared_parties.Goals as goal

pub returns : goal.returns
returns c = record { law = go_by_declared (described_have_cells c.lands_have_cells.ensures.law c.descriptions_stay.ensures.law) }
