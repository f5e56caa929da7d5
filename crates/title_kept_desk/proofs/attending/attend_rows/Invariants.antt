-- Between two pulls all whole lines of what was given are answered, and what they added is on the disk.
use Rattle.std.proofs.Common.{◌≡◌, ◌≤◌, ◌-◌, ◌^◌, false}
use Rattle.title_counter.specs.{Sessions.{IsSound}, Views.{counter_of}}
use Rattle.title_kept_desk.specs.Sittings.{IsUpTo}
use Rattle.title_kept_desk.proofs.DeskSittings.{Between}
use Rattle.title_kept_desk.proofs.attending.attend_rows.Given as goal

abbrev pub invariant-pulls : goal.invariant-pulls
invariant-pulls g l = record {
  between : Between g.D.Disk.seen g.D.Disk.may_leave g.D.Disk.has_failed g.D.Disk.moment g.D.Disk.left_since (g.D.Disk.seen l.fn.disk)
      l.fn.disk l.disk (g.R.Source.left l.fn.source) (g.R.Source.left l.source) (g.W.Sink.taken l.fn.sink) (g.W.Sink.taken l.sink)
      (counter_of l.clerk) l.line l.given;
  up_to : IsUpTo g.D.Disk.seen g.D.Disk.may_leave g.D.Disk.has_failed l.disk l.mark (counter_of l.clerk);
  sound : IsSound (counter_of l.clerk);
  rows : l.clerk.rows ≤ l.given;
  source_works : g.R.Source.has_failed l.source ≡ false;
  sink_works : g.W.Sink.has_failed l.sink ≡ false;
}

abbrev pub decreases-pulls : goal.decreases-pulls
decreases-pulls g l = 2 ^ 64 - l.given
