-- The rows, the last row, and what stands on the page.
use Rattle.std.{proofs.Common.{map}, specs.{List.{flat_map}, String.{string_bytes}}}
use Rattle.title_page.specs.Laws.{InTurn.{on_err}, Whole.{part_at_end, part_at_last, part_of_rows, whole_given}}
use Rattle.title_report.specs.Replies.{end_row}
use Rattle.title_script.specs.Told.{told_rows}
use Rattle.title_script.proofs.writing.write_served.Goals as goal

pub returns-in_err-put_all_told-clause-part : goal.returns-in_err-put_all_told-clause-part
returns-in_err-put_all_told-clause-part g c =
    let s = c.args.served.now in
    let rows = flat_map (told_rows (map string_bytes s.plan.parties.keys)) s.told.items in
    on_err c.from_residual.result (part_of_rows rows (end_row s.steps) c.new-page.ensures.empty (rw
    (c.as_slice-told.ensures.value, c.new-lines.ensures.names, c.judged-roster.ensures.names) at c.in_err-put_all_told.ensures.stopped))

pub returns-in_err-put_end-clause-part : goal.returns-in_err-put_end-clause-part
returns-in_err-put_end-clause-part g c =
    let s = c.args.served.now in
    let rows = flat_map (told_rows (map string_bytes s.plan.parties.keys)) s.told.items in
    on_err c.from_residual-in_err-put_end.result (part_at_last rows (end_row s.steps) c.new-page.ensures.empty (rw
    (c.as_slice-told.ensures.value, c.new-lines.ensures.names, c.judged-roster.ensures.names) at c.in_ok-put_all_told.ensures.written)
    c.in_err-put_end.ensures.stopped)

pub returns-in_err-pass-clause-part : goal.returns-in_err-pass-clause-part
returns-in_err-pass-clause-part g c =
    let s = c.args.served.now in
    let rows = flat_map (told_rows (map string_bytes s.plan.parties.keys)) s.told.items in
    on_err c.from_residual-in_err-pass.result (part_at_end rows (end_row s.steps) c.new-page.ensures.empty (rw
    (c.as_slice-told.ensures.value, c.new-lines.ensures.names, c.judged-roster.ensures.names) at c.in_ok-put_all_told.ensures.written)
    c.in_ok-put_end.ensures.written c.in_err-pass.ensures.stopped)

pub returns-clause-bytes : goal.returns-clause-bytes
returns-clause-bytes g c =
    let s = c.args.served.now in
    let rows = flat_map (told_rows (map string_bytes s.plan.parties.keys)) s.told.items in
    whole_given rows (end_row s.steps) c.new-page.ensures.empty
    (rw (c.as_slice-told.ensures.value, c.new-lines.ensures.names, c.judged-roster.ensures.names) at c.in_ok-put_all_told.ensures.written)
    c.in_ok-put_end.ensures.written
    c.in_ok-pass.ensures.written c.in_ok-pass.ensures.empty
