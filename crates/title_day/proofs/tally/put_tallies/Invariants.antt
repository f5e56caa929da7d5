-- The rows so far are written.
use Rattle.std.proofs.Common.{◌≡◌, false, map, take}
use Rattle.title_page.specs.{Pages.{Written}, Rows.{rows_text}}
use Rattle.title_day.specs.Tallies.{tally_row}
use Rattle.title_day.proofs.tally.put_tallies.Given as goal

abbrev pub invariant-loop-tally : goal.invariant-loop-tally
invariant-loop-tally g l =
    Written (g.S.Sink.taken l.fn.sink) l.fn.page (g.S.Sink.taken l.sink) l.page
    (rows_text (map tally_row (take l.tally-index l.tallies)))
    × (g.S.Sink.has_failed l.sink ≡ false)
