-- Rows of sheets as they are kept.
use Rattle.title_instrument.specs.declared.parts.Estate.{Estate}
use Rattle.title_land.specs.declared.node.Node.TheVariants as node
use Rattle.title_land.specs.declared.survey.Section.{Section}
use Rattle.title_store.specs.declared.sheet_row.SheetRow.{SheetRow}
use Rattle.title_chain.specs.declared.square_row.SquareRow.{SquareRow}

-- the row of a section's square for an estate
abbrev pub row_in : Section → Estate → SquareRow → SheetRow
row_in s e r = record { node = node.Part s r.within; estate = e; party = r.party; units = r.share }
