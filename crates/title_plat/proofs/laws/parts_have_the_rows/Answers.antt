-- What was left to show of `parts_have_the_rows`.
use Rattle.title_plat.proofs.PartRows.{parts_have_rows}
use Rattle.title_plat.proofs.laws.parts_have_the_rows.Goals as goal

pub returns : goal.returns
returns c = record { law = parts_have_rows }
