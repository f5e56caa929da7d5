-- The line can't be held, or it is answered, or the sink has failed.
use Rattle.std.proofs.{Common.{◌≡◌, ◌∙◌, ap, arith, length, map}, lemmas.Result.{err_from_is_err_and}}
use Rattle.title_counter.specs.{Lines.{last_line}, Views.{counter_of}, Laws.GivenBytes.{keeps_itself}}
use Rattle.title_kept_desk.specs.LookLines.{as_look, lines_text}
use Rattle.title_kept_desk.proofs.{LookLines.{last_bytes, last_of}, LookSittings.{lost_as, passed_as}}
use Rattle.title_kept_desk.proofs.look_desk.look_rest.Goals as goal

pub returns-in_err-lines : goal.returns-in_err-lines
returns-in_err-lines g c =
    let out = err_from_is_err_and c.from_residual.result c.from_residual.ensures.1 in
    record { batch = rw (out.1, out.2) (keeps_itself (g.W.Sink.taken c.args.sink.now)) }

pub answer_lines-requires-clause-fits : goal.answer_lines-requires-clause-fits
answer_lines-requires-clause-fits g c =
    let line = c.args.line.now.items in
    let text : c.as_slice-looks.result.now ≡ lines_text (map as_look (last_line line)) =
    c.as_slice-looks.ensures.value ∙ c.in_ok-lines.ensures.lines in
    omega (arith, c.requires.fits, ap length text, last_bytes line)

pub returns-in_err-answer_lines : goal.returns-in_err-answer_lines
returns-in_err-answer_lines g c =
    let line = c.args.line.now.items in
    let text = c.as_slice-looks.ensures.value ∙ c.in_ok-lines.ensures.lines in
    let out = err_from_is_err_and c.from_residual-in_err-answer_lines.result c.from_residual-in_err-answer_lines.ensures.1 in
    record {
      batch = rw (out.1, out.2) (
        lost_as (counter_of c.args.clerk.now) (counter_of c.answer_lines.new.clerk) _ (map as_look (last_line line))
            (g.W.Sink.taken c.args.sink.now) (g.W.Sink.taken c.answer_lines.new.sink)
            (last_of line c.as_slice-looks.result.now text c.requires.start) c.in_err-answer_lines.ensures.lost,
        c.answer_lines.ensures.sound,
        c.in_err-answer_lines.ensures.failed,
      );
    }

pub returns : goal.returns
returns g c =
    let line = c.args.line.now.items in
    let text = c.as_slice-looks.ensures.value ∙ c.in_ok-lines.ensures.lines in
    record {
      batch = (
        passed_as (counter_of c.args.clerk.now) (counter_of c.answer_lines.new.clerk) _ (map as_look (last_line line))
            (g.W.Sink.taken c.args.sink.now) (g.W.Sink.taken c.answer_lines.new.sink)
            (last_of line c.as_slice-looks.result.now text c.requires.start) c.in_ok-answer_lines.ensures.answers,
        c.answer_lines.ensures.sound,
        c.in_ok-answer_lines.ensures.well,
      );
    }
