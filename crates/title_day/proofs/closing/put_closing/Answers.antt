-- The tallies, the row that counts the records, and the closing sheet.
use Rattle.std.{proofs.{Common.{◌∷◌, [], map}, lemmas.Result.{on_ok_weaker, on_err_weaker}}, specs.String.{string_bytes}}
use Rattle.title_page.specs.Laws.{InTurn.{on_err}, Rows.{rows_stopped_before, rows_stopped_then, rows_then}}
use Rattle.title_report.specs.Replies.{reply_rows}
use Rattle.title_day.specs.Tallies.{settled_row, tally_row}
use Rattle.title_day.proofs.closing.put_closing.Goals as goal

pub returns-in_err-put_tallies-clause-stopped : goal.returns-in_err-put_tallies-clause-stopped
returns-in_err-put_tallies-clause-stopped g c =
    let x = c.args.closing.now in
    on_err c.from_residual.result (rows_stopped_before (map tally_row x.tallies.items)
    (settled_row x.records ∷ reply_rows (map string_bytes x.names.keys) 0 x.sheet)
    (rw c.as_slice.ensures.value at c.in_err-put_tallies.ensures.stopped))

pub returns-in_err-put_settled-clause-stopped : goal.returns-in_err-put_settled-clause-stopped
returns-in_err-put_settled-clause-stopped g c =
    let x = c.args.closing.now in
    on_err c.from_residual-in_err-put_settled.result (rows_stopped_then (map tally_row x.tallies.items)
    (settled_row x.records ∷ reply_rows (map string_bytes x.names.keys) 0 x.sheet)
    (rw c.as_slice.ensures.value at c.in_ok-put_tallies.ensures.written)
    (rows_stopped_before (settled_row x.records ∷ []) (reply_rows (map string_bytes x.names.keys) 0 x.sheet)
    c.in_err-put_settled.ensures.stopped))

pub returns-clause-written : goal.returns-clause-written
returns-clause-written g c =
    let x = c.args.closing.now in
    on_ok_weaker c.put_reply.result (λ w. rows_then (map tally_row x.tallies.items)
    (settled_row x.records ∷ reply_rows (map string_bytes x.names.keys) 0 x.sheet)
    (rw c.as_slice.ensures.value at c.in_ok-put_tallies.ensures.written)
    (rows_then (settled_row x.records ∷ []) (reply_rows (map string_bytes x.names.keys) 0 x.sheet)
    c.in_ok-put_settled.ensures.written w)) c.put_reply.ensures.written

pub returns-clause-stopped : goal.returns-clause-stopped
returns-clause-stopped g c =
    let x = c.args.closing.now in
    on_err_weaker c.put_reply.result (λ v. rows_stopped_then (map tally_row x.tallies.items)
    (settled_row x.records ∷ reply_rows (map string_bytes x.names.keys) 0 x.sheet)
    (rw c.as_slice.ensures.value at c.in_ok-put_tallies.ensures.written)
    (rows_stopped_then (settled_row x.records ∷ []) (reply_rows (map string_bytes x.names.keys) 0 x.sheet)
    c.in_ok-put_settled.ensures.written v)) c.put_reply.ensures.stopped
