-- Between two pulls all whole lines of what was given are answered.
use Rattle.std.proofs.Common.{◌≡◌, ◌≤◌, ◌+◌, ◌-◌, ◌^◌, false, length}
use Rattle.title_counter.specs.{Sessions.{IsSound}, Views.{counter_of}}
use Rattle.title_kept_desk.proofs.LookSittings.{LooksBetween}
use Rattle.title_kept_desk.proofs.look_desk.look_rows.Given as goal

abbrev pub invariant-pulls : goal.invariant-pulls
invariant-pulls g l = record {
  between : LooksBetween (counter_of l.fn.clerk) (g.R.Source.left l.fn.source) (g.R.Source.left l.source) (g.W.Sink.taken l.fn.sink)
      (g.W.Sink.taken l.sink) (counter_of l.clerk) l.line.items l.given;
  sound : IsSound (counter_of l.clerk);
  rows : l.clerk.rows + length l.line.items ≤ l.given;
  source_works : g.R.Source.has_failed l.source ≡ false;
  sink_works : g.W.Sink.has_failed l.sink ≡ false;
}

abbrev pub decreases-pulls : goal.decreases-pulls
decreases-pulls g l = 2 ^ 64 - l.given
