-- The row that counts, and those that it counts: those of a sheet's parts are the sheet's.
use Rattle.std.proofs.Common.{◌∙◌, ◌∷◌, [], codes, length, map}
use Rattle.title_page.specs.Laws.Rows.{rows_stopped_before}
use Rattle.title_report.{specs.Replies.{sheet_row, number_row}, proofs.{Puts.{put_as, put_failed, rows_put_then}, SheetParts.{parts_text}}}
use Rattle.title_report.proofs.answers.put_sheet.Goals as goal

pub put_sheet_lines-requires-clause-front : goal.put_sheet_lines-requires-clause-front
put_sheet_lines-requires-clause-front g c = c.new-front.ensures.front c.args.examiner

pub put_sheet_parts-requires-clause-front : goal.put_sheet_parts-requires-clause-front
put_sheet_parts-requires-clause-front g c = c.new-front.ensures.front c.args.examiner

pub returns-in_err-put_number_row : goal.returns-in_err-put_number_row
returns-in_err-put_number_row g c = record {
  put = put_failed c.from_residual.ensures.0
      (rows_stopped_before (number_row c.args.examiner (codes "sheet") (length c.args.sheet.now) ∷ [])
      (map (sheet_row c.args.roster.now c.args.examiner) c.args.sheet.now)
      (rw c.len.ensures.len at c.in_err-put_number_row.ensures.put.stopped)) c.in_err-put_number_row.ensures.put.failed;
}

pub returns-in-Whole : goal.returns-in-Whole
returns-in-Whole g c =
    let whole = rw c.in-Whole.is at c.sheet.ensures.sheet in record {
      put = rows_put_then (number_row c.args.examiner (codes "sheet") (length c.args.sheet.now) ∷ [])
          (map (sheet_row c.args.roster.now c.args.examiner) c.args.sheet.now)
          (rw c.len.ensures.len at c.in_ok-put_number_row.ensures.put.written) (rw whole at c.put_sheet_lines.ensures.put);
    }

pub returns-in-Parted : goal.returns-in-Parted
returns-in-Parted g c =
    let f = sheet_row c.args.roster.now c.args.examiner in
    let parted = rw c.in-Parted.is at c.sheet.ensures.sheet in record {
      put = rows_put_then (number_row c.args.examiner (codes "sheet") (length c.args.sheet.now) ∷ []) (map f c.args.sheet.now)
          (rw c.len.ensures.len at c.in_ok-put_number_row.ensures.put.written)
          (put_as (parts_text f c.as_slice.result.now c.args.sheet.now (c.as_slice.ensures.parts ∙ parted)) c.put_sheet_parts.ensures.put);
    }
