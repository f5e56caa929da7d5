-- The closing sheet, and the text of a report from its parts.
use Rattle.std.proofs.{Common.{◌≡◌, List, [], ◌∷◌, true, reverse, ap}, lemmas.Bool.{false≢true}}
use Rattle.title_land.specs.{Depth.{depth}, Lands.{is_in_plant}, declared.survey.Township.{Township}}
use Rattle.title_land.specs.declared.tract.Land.TheVariants as land
use Rattle.title_store.specs.{declared.sheet_row.SheetRow.{SheetRow}, Sheets.{sheet_of}}
use Rattle.title_chain.specs.{declared.record.Record.{Record}, Alone.{plant_after}, Asks.{answer_to}}
use Rattle.title_chain.specs.declared.ask.Answer.TheVariants as answer
use Rattle.title_trace.specs.declared.call.Reply.TheVariants as reply
use Rattle.title_day.specs.OfficeReports.{closing_sheet}

-- the rows of the whole plant are the closing sheet of a plant with townships
pub sheet_closes : (ts : List Township) (records : List Record) (rows : List SheetRow) → is_in_plant ts land.Everything ≡ true →
    rows ≡ sheet_of depth ts (plant_after depth ts (reverse records)) land.Everything →
    reply.Answered (answer.Rows rows) ≡ closing_sheet ts records
unfolding answer_to
sheet_closes [] records rows inside is = absurd (false≢true inside)
sheet_closes (t ∷ ts) records rows inside is = ap (λ (shown : List SheetRow). reply.Answered (answer.Rows shown)) is
