-- A text that describes a land in a script says it in a plant's file, so it says one that has a cell.
use Rattle.title_plan.specs.Lands.{land_in}
use Rattle.title_spelling.specs.Laws.{DescriptionsStay, LandsHaveCells as SaidHaveCells}
use Rattle.title_lasting.specs.Laws.FineRows.{LandsHaveCells}

pub described_have_cells : SaidHaveCells → DescriptionsStay → LandsHaveCells land_in
described_have_cells cells stay text l h = cells text l (stay text l h)
