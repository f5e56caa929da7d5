-- The last line's answer, the last row, and what stands on the page.
use Rattle.title_counter.{specs.{Lines.{last_line}, Views.{counter_of}}, proofs.Batches.{broken_at_end, broken_at_row, broken_in, ended}}
use Rattle.title_counter.proofs.OnResults.{err_then, ok_both, on_err}
use Rattle.title_counter.proofs.lines.end_session.Goals as goal

pub returns-in_err-answered-clause-broken : goal.returns-in_err-answered-clause-broken
returns-in_err-answered-clause-broken g c =
    on_err c.from_residual.result
    (broken_in c.requires.empty (counter_of c.args.clerk.now) (counter_of c.answer_last-answered.new.clerk) (last_line c.args.line.now)
    c.is_sound.ensures.sound (rw c.in_err-answered.was at c.answer_last-answered.ensures.lost))

pub returns-in_err-put_end-clause-broken : goal.returns-in_err-put_end-clause-broken
returns-in_err-put_end-clause-broken g c =
    on_err c.from_residual-in_err-put_end.result
    (broken_at_row c.requires.empty (counter_of c.args.clerk.now) (counter_of c.answer_last-answered.new.clerk) (last_line c.args.line.now)
    c.is_sound.ensures.sound (rw c.in_ok-answered.was at c.answer_last-answered.ensures.answers)
    (rw c.close.ensures.steps at c.in_err-put_end.ensures.stopped))

pub returns-clause-broken : goal.returns-clause-broken
returns-clause-broken g c =
    err_then c.pass.result c.pass.ensures.stopped
    (λ v. broken_at_end c.requires.empty (counter_of c.args.clerk.now) (counter_of c.answer_last-answered.new.clerk)
    (last_line c.args.line.now) c.is_sound.ensures.sound (rw c.in_ok-answered.was at c.answer_last-answered.ensures.answers)
    (rw c.close.ensures.steps at c.in_ok-put_end.ensures.written) v)

pub returns-clause-ended : goal.returns-clause-ended
returns-clause-ended g c =
    ok_both c.pass.result c.pass.ensures.written c.pass.ensures.empty
    (λ u none. ended c.requires.empty (counter_of c.args.clerk.now) (counter_of c.answer_last-answered.new.clerk)
    (last_line c.args.line.now) c.is_sound.ensures.sound c.close.ensures.ends
    (rw c.in_ok-answered.was at c.answer_last-answered.ensures.answers)
    (rw c.close.ensures.steps at c.in_ok-put_end.ensures.written) u none)
