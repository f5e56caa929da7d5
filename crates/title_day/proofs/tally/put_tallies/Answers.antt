-- One row more, behind those before it.
use Rattle.std.proofs.lemmas.List.{get_or_default}
use Rattle.title_page.specs.Laws.{InTurn.{on_err}, Rows.{one_row_more, stopped_at_a_row}}
use Rattle.title_day.specs.Tallies.{tally_row}
use Rattle.title_day.proofs.tally.put_tallies.Goals as goal

pub loop-tally-preserved : goal.loop-tally-preserved
loop-tally-preserved g c = (
  one_row_more tally_row c.args.tallies.now c.loop-tally.tally-index _ c.loop-tally-test.true
      (get_or_default c.args.tallies.now c.loop-tally.tally-index _ _ c.loop-tally-test.true)
      c.loop-tally.invariant.0 c.in_ok-put_tally.ensures.written,
  c.in_ok-put_tally.ensures.well,
)

pub returns-in_err-put_tally-clause-stopped : goal.returns-in_err-put_tally-clause-stopped
returns-in_err-put_tally-clause-stopped g c =
    on_err c.from_residual.result (stopped_at_a_row tally_row c.args.tallies.now c.loop-tally.tally-index _
    c.loop-tally-test.true (get_or_default c.args.tallies.now c.loop-tally.tally-index _ _ c.loop-tally-test.true)
    c.loop-tally.invariant.0 c.in_err-put_tally.ensures.stopped)
