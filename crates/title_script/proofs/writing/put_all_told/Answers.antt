-- The rows of one more, behind those before it.
use Rattle.std.proofs.Common.{◌∙◌}
use Rattle.title_page.specs.Laws.{InTurn.{on_err}, Rows.{rows_of_one_more, stopped_at_one}}
use Rattle.title_script.specs.Told.{told_rows}
use Rattle.title_script.proofs.writing.put_all_told.Goals as goal

pub loop-one-preserved : goal.loop-one-preserved
loop-one-preserved g c =
    let written = rw c.loop-one.invariant.2 at c.in_ok-put_told.ensures.written in (
      rows_of_one_more (told_rows c.args.lines.now) c.args.told.now c.loop-one.one-index c.one-item.result
          c.loop-one-test.true c.one-item.is c.loop-one.invariant.0 written,
      c.in_ok-put_told.ensures.well,
      c.in_ok-put_told.ensures.names ∙ c.loop-one.invariant.2,
    )

pub returns-in_err-put_told-clause-stopped : goal.returns-in_err-put_told-clause-stopped
returns-in_err-put_told-clause-stopped g c =
    let stopped = rw c.loop-one.invariant.2 at c.in_err-put_told.ensures.stopped in
    on_err c.from_residual.result (stopped_at_one (told_rows c.args.lines.now) c.args.told.now
    c.loop-one.one-index c.one-item.result c.loop-one-test.true c.one-item.is c.loop-one.invariant.0 stopped)
