-- The last line's batch isn't told, or the last row isn't written; or all is written.
use Rattle.std.proofs.lemmas.Result.{err_from_is_err_and}
use Rattle.title_disk.specs.Crashes.{LeavesOnly}
use Rattle.title_counter.specs.{Lines.{last_line}, Views.{counter_of}}
use Rattle.title_kept_desk.proofs.RowsEnded.{ended_whole, unended, unwritten}
use Rattle.title_kept_desk.proofs.attending.end_rows.Goals as goal

pub returns-in_err-sit_rest : goal.returns-in_err-sit_rest
returns-in_err-sit_rest g c =
    let out = err_from_is_err_and c.from_residual.result c.from_residual.ensures.1 in
    rw (out.1, out.2) (record {
      ended = unended g.D.Disk.seen g.D.Disk.may_leave g.D.Disk.has_failed
          (LeavesOnly g.D.Disk.moment g.D.Disk.left_since c.args.disk.now c.sit_rest.new.disk) c.sit_rest.new.disk c.sit_rest.new.mark
          (counter_of c.args.clerk.now) (counter_of c.sit_rest.new.clerk) (last_line c.args.line.now) c.sit_rest.ensures.sound
          (g.W.Sink.taken c.args.sink.now) (g.W.Sink.taken c.sit_rest.new.sink) c.in_err-sit_rest.field-0.0
          (g.W.Sink.has_failed c.sit_rest.new.sink) c.in_err-sit_rest.ensures.batch;
    })

pub put_last-requires : goal.put_last-requires
put_last-requires g c = record { works = c.in_ok-sit_rest.ensures.batch.5 }

pub returns-in_err-put_last : goal.returns-in_err-put_last
returns-in_err-put_last g c =
    let out = err_from_is_err_and c.from_residual-in_err-put_last.result c.from_residual-in_err-put_last.ensures.1 in
    rw (out.1, out.2) (record {
      ended = unwritten g.D.Disk.seen g.D.Disk.may_leave g.D.Disk.has_failed
          (LeavesOnly g.D.Disk.moment g.D.Disk.left_since c.args.disk.now c.sit_rest.new.disk) c.sit_rest.new.disk c.sit_rest.new.mark
          (counter_of c.args.clerk.now) (counter_of c.sit_rest.new.clerk) (last_line c.args.line.now) c.sit_rest.ensures.sound
          (g.W.Sink.taken c.args.sink.now) (g.W.Sink.taken c.sit_rest.new.sink) (g.W.Sink.taken c.put_last.new.sink)
          (g.W.Sink.has_failed c.sit_rest.new.sink) (g.W.Sink.has_failed c.put_last.new.sink) c.in_ok-sit_rest.ensures.batch
          (rw c.close.ensures.steps at c.in_err-put_last.ensures.begun) c.in_err-put_last.ensures.failed;
    })

pub returns : goal.returns
returns g c = record {
  ended = ended_whole g.D.Disk.seen g.D.Disk.may_leave g.D.Disk.has_failed
      (LeavesOnly g.D.Disk.moment g.D.Disk.left_since c.args.disk.now c.sit_rest.new.disk) c.sit_rest.new.disk c.sit_rest.new.mark
      (counter_of c.args.clerk.now) (counter_of c.sit_rest.new.clerk) (last_line c.args.line.now) c.sit_rest.ensures.sound
      (g.W.Sink.taken c.args.sink.now) (g.W.Sink.taken c.sit_rest.new.sink) (g.W.Sink.taken c.put_last.new.sink)
      (g.W.Sink.has_failed c.sit_rest.new.sink) (g.W.Sink.has_failed c.put_last.new.sink) c.in_ok-sit_rest.ensures.batch
      (rw c.close.ensures.steps at c.in_ok-put_last.ensures.written) c.close.ensures.ends;
}
