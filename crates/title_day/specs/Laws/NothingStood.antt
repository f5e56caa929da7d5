-- The report of an office on whose desk nothing stood.
use Rattle.std.proofs.Common.{◌≡◌, ◌-◌, ◌∷◌, ◌++◌, ℕ, List, length, map, ap, arith}
use Rattle.title_land.specs.declared.survey.Township.{Township}
use Rattle.title_chain.specs.declared.record.Record.{Record}
use Rattle.title_page.specs.Rows.{row, rows_text}
use Rattle.title_report.specs.Replies.{end_row, reply_rows}
use Rattle.title_day.specs.{declared.tally.Tally.{Tally}, DaysOn.{closing_text_on}, OfficeReports.{closing_sheet, closing_text}}
use Rattle.title_day.specs.Tallies.{settled_row, tally_row}

-- it counts all records
pub nothing_stood : (townships : List Township) (names : List (List ℕ)) (steps : ℕ) (tallies : List Tally) (records : List Record)
    → closing_text_on townships names steps tallies 0 records ≡ closing_text townships names steps tallies records
nothing_stood townships names steps tallies records =
    let all : length records - 0 ≡ length records = omega arith in
    ap (λ (n : ℕ). rows_text (map tally_row tallies ++ settled_row n ∷ reply_rows names 0 (closing_sheet townships records))
    ++ row (end_row steps)) all
