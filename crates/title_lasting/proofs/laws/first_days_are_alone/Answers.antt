-- The law is a lemma.
use Rattle.title_lasting.specs.Laws.CellsSaid.{described_have_cells}
use Rattle.title_lasting.proofs.ByDeclared.{first_is_alone}
use Rattle.title_lasting.proofs.laws.first_days_are_alone.Goals as goal

pub returns : goal.returns
returns c =
    let cells = described_have_cells c.lands_have_cells.ensures.law c.descriptions_stay.ensures.law in
    record { law = first_is_alone cells c.onto_nothing.ensures.alone }
