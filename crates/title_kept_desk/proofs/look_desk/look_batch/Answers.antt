-- The lines can't be held, or they are answered, or the sink has failed.
use Rattle.std.proofs.{Common.{◌≡◌, ◌∙◌, ap, arith, length, map}, lemmas.Result.{err_from_is_err_and}}
use Rattle.title_counter.specs.{Lines.{lines_from}, Views.{counter_of}, Laws.GivenBytes.{keeps_itself}}
use Rattle.title_kept_desk.specs.LookLines.{as_look, lines_text}
use Rattle.title_kept_desk.proofs.{LookLines.{no_more_bytes, whole_of}, LookSittings.{lost_as, passed_as}}
use Rattle.title_kept_desk.proofs.look_desk.look_batch.Goals as goal

pub returns-in_err-lines-clause-batch : goal.returns-in_err-lines-clause-batch
returns-in_err-lines-clause-batch g c =
    let out = err_from_is_err_and c.from_residual.result c.from_residual.ensures.1 in
    rw (out.1, out.2) (keeps_itself (g.W.Sink.taken c.args.sink.now))

pub answer_lines-requires-clause-fits : goal.answer_lines-requires-clause-fits
answer_lines-requires-clause-fits g c =
    let line = c.args.line.now.items in
    let bytes = c.args.bytes.now in
    let text : c.as_slice-looks.result.now ≡ lines_text (map as_look (lines_from line bytes).whole) =
    c.as_slice-looks.ensures.value ∙ c.in_ok-lines.ensures.lines in
    omega (arith, c.requires.fits, ap length text, no_more_bytes line bytes)

pub returns-in_err-answer_lines-clause-batch : goal.returns-in_err-answer_lines-clause-batch
returns-in_err-answer_lines-clause-batch g c =
    let line = c.args.line.now.items in
    let bytes = c.args.bytes.now in
    let text = c.as_slice-looks.ensures.value ∙ c.in_ok-lines.ensures.lines in
    let out = err_from_is_err_and c.from_residual-in_err-answer_lines.result c.from_residual-in_err-answer_lines.ensures.1 in
    rw (out.1, out.2) (
      lost_as (counter_of c.args.clerk.now) (counter_of c.answer_lines.new.clerk) _ (map as_look (lines_from line bytes).whole)
          (g.W.Sink.taken c.args.sink.now) (g.W.Sink.taken c.answer_lines.new.sink)
          (whole_of line bytes c.as_slice-looks.result.now text c.requires.start) c.in_err-answer_lines.ensures.lost,
      c.answer_lines.ensures.sound,
      c.in_err-answer_lines.ensures.failed,
    )

pub returns-clause-batch : goal.returns-clause-batch
returns-clause-batch g c =
    let line = c.args.line.now.items in
    let bytes = c.args.bytes.now in
    let text = c.as_slice-looks.ensures.value ∙ c.in_ok-lines.ensures.lines in (
      passed_as (counter_of c.args.clerk.now) (counter_of c.answer_lines.new.clerk) _ (map as_look (lines_from line bytes).whole)
          (g.W.Sink.taken c.args.sink.now) (g.W.Sink.taken c.answer_lines.new.sink)
          (whole_of line bytes c.as_slice-looks.result.now text c.requires.start) c.in_ok-answer_lines.ensures.answers,
      c.answer_lines.ensures.sound,
      c.in_ok-answer_lines.ensures.well,
    )

pub returns-clause-rows : goal.returns-clause-rows
returns-clause-rows g c =
    let line = c.args.line.now.items in
    let bytes = c.args.bytes.now in
    let text : c.as_slice-looks.result.now ≡ lines_text (map as_look (lines_from line bytes).whole) =
    c.as_slice-looks.ensures.value ∙ c.in_ok-lines.ensures.lines in
    omega (arith, c.answer_lines.ensures.rows, ap length text, ap length c.in_ok-lines.ensures.rest, no_more_bytes line bytes)
