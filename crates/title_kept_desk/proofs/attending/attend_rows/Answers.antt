-- A pull and its batch, the end, and each fault.
use Rattle.std.proofs.{Common.{◌+◌, ◌++◌, ◌∙◌, ap, arith, inl, inr, length-take, refl, take}, lemmas.Result.{err_from_is_err_and}}
use Rattle.title_counter.specs.{Counters.{Counter}, Lines.{last_line, lines_from, lines_in}, Views.{counter_of}}
use Rattle.title_lasting.specs.Laws.CellsSaid.{described_have_cells}
use Rattle.title_kept_desk.proofs.BatchKept.{still_there}
use Rattle.title_kept_desk.proofs.DeskSittings.{answered_all, at_once, at_start, beyond, cause_at, come, consumed_kept, consumed_more}
use Rattle.title_kept_desk.proofs.DeskSittings.{ended_cause, ended_stopped, pull_lines, pull_whole, pulled, stopped_at}
use Rattle.title_kept_desk.proofs.attending.attend_rows.Goals as goal

pub pulls-init : goal.pulls-init
pulls-init g c =
    let disk = c.args.disk.now in
    let opening = c.requires.opening in
    let zero = ap (λ (x : Counter). x.rows) opening.2 in
    record {
      between = at_start g.D.Disk.seen g.D.Disk.may_leave g.D.Disk.has_failed g.D.Disk.moment g.D.Disk.left_since disk
          (g.R.Source.left c.args.source.now) (g.W.Sink.taken c.args.sink.now) opening.0 opening.1 (counter_of c.args.clerk.now) opening.2
          c.requires.up_to.stands (λ P here. still_there g.D.Disk.seen g.D.Disk.may_leave g.D.Disk.has_failed g.D.Disk.moment
          g.D.Disk.left_since
          g.met.D.Disk.only_now disk P c.requires.up_to.rest.durable here)
          c.new-line.result 0 c.new-line.ensures.empty refl;
      up_to = c.requires.up_to;
      sound = c.is_sound.ensures.sound;
      rows = omega (arith, zero);
      source_works = c.requires.source_works;
      sink_works = c.requires.sink_works;
    }

pub returns-in-Err : goal.returns-in-Err
returns-in-Err g c =
    let cells = c.lands_have_cells.ensures.law in
    let lands = described_have_cells cells c.descriptions_stay.ensures.law in
    let recalled = c.replayed_records_are_committed.ensures.law in
    let inv = c.pulls.invariant in
    record {
      desk = record {
        answers = tt;
        all = tt;
        stopped = at_once g.D.Disk.seen g.D.Disk.may_leave g.D.Disk.has_failed g.D.Disk.moment g.D.Disk.left_since
            lands cells recalled inv.between c.pulls.mark inv.sound inv.up_to
            (consumed_kept g.D.Disk.seen g.D.Disk.may_leave g.D.Disk.has_failed g.D.Disk.moment g.D.Disk.left_since
            lands cells recalled inv.between (g.R.Source.left c.pull.new.self) c.in-Err.ensures.bytes);
        why = inl c.in-Err.ensures.failed;
      };
    }

pub end_rows-requires-clause-come : goal.end_rows-requires-clause-come
end_rows-requires-clause-come g c =
    let cells = c.lands_have_cells.ensures.law in
    come g.D.Disk.seen g.D.Disk.may_leave g.D.Disk.has_failed g.D.Disk.moment g.D.Disk.left_since
    (described_have_cells cells c.descriptions_stay.ensures.law) cells c.replayed_records_are_committed.ensures.law
    c.pulls.invariant.between

pub returns-in_err-end_rows : goal.returns-in_err-end_rows
returns-in_err-end_rows g c =
    let cells = c.lands_have_cells.ensures.law in
    let lands = described_have_cells cells c.descriptions_stay.ensures.law in
    let recalled = c.replayed_records_are_committed.ensures.law in
    let inv = c.pulls.invariant in
    let consumed = rw c.if-count-eq0.true at c.in-Ok.ensures.bytes.0 in
    let out = err_from_is_err_and c.from_residual.result c.from_residual.ensures.1 in
    let failed = g.W.Sink.has_failed c.end_rows.new.sink in
    rw (out.1, out.2) (record {
      desk = record {
        answers = tt;
        all = tt;
        stopped = ended_stopped g.D.Disk.seen g.D.Disk.may_leave g.D.Disk.has_failed g.D.Disk.moment g.D.Disk.left_since
            lands cells recalled inv.between (g.R.Source.left c.pull.new.self) (g.W.Sink.taken c.end_rows.new.sink)
            c.end_rows.new.disk c.end_rows.new.mark consumed inv.sound c.in_err-end_rows.field-0.0 failed c.in_err-end_rows.ensures.ended;
        why = ended_cause g.D.Disk.seen g.D.Disk.may_leave g.D.Disk.has_failed g.D.Disk.moment g.D.Disk.left_since
            lands cells recalled inv.between (g.W.Sink.taken c.end_rows.new.sink) c.end_rows.new.disk c.end_rows.new.mark
            c.in_err-end_rows.field-0.0 (g.R.Source.has_failed c.pull.new.self) failed c.in_err-end_rows.ensures.ended;
      };
    })

pub returns-then-count-eq0 : goal.returns-then-count-eq0
returns-then-count-eq0 g c =
    let cells = c.lands_have_cells.ensures.law in
    let lands = described_have_cells cells c.descriptions_stay.ensures.law in
    let recalled = c.replayed_records_are_committed.ensures.law in
    let inv = c.pulls.invariant in
    let consumed = rw c.if-count-eq0.true at c.in-Ok.ensures.bytes.0 in
    let end = c.in-Ok.ensures.bytes.1 c.if-count-eq0.true (omega arith) in
    record {
      desk = record {
        answers = answered_all g.D.Disk.seen g.D.Disk.may_leave g.D.Disk.has_failed g.D.Disk.moment g.D.Disk.left_since lands cells
            recalled inv.between c.end_rows.new.disk c.end_rows.new.mark consumed c.in_ok-end_rows.ensures.ended;
        all = end;
        stopped = tt;
        why = tt;
      };
    }

pub sit_batch-requires-clause-come : goal.sit_batch-requires-clause-come
sit_batch-requires-clause-come g c =
    let cells = c.lands_have_cells.ensures.law in
    come g.D.Disk.seen g.D.Disk.may_leave g.D.Disk.has_failed g.D.Disk.moment g.D.Disk.left_since
    (described_have_cells cells c.descriptions_stay.ensures.law) cells c.replayed_records_are_committed.ensures.law
    c.pulls.invariant.between

pub returns-in_err-sit_batch : goal.returns-in_err-sit_batch
returns-in_err-sit_batch g c =
    let cells = c.lands_have_cells.ensures.law in
    let lands = described_have_cells cells c.descriptions_stay.ensures.law in
    let recalled = c.replayed_records_are_committed.ensures.law in
    let inv = c.pulls.invariant in
    let bytes = take c.in-Ok.count c.pull.new.buf in
    let given = inv.between.given ++ bytes in
    let batch = (lines_from c.pulls.line bytes).whole in
    let out = err_from_is_err_and c.from_residual-in_err-sit_batch.result c.from_residual-in_err-sit_batch.ensures.1 in
    let left = g.R.Source.left c.pull.new.self in
    let after = g.W.Sink.taken c.sit_batch.new.sink in
    let failed = g.W.Sink.has_failed c.sit_batch.new.sink in
    rw (out.1, out.2) (record {
      desk = record {
        answers = tt;
        all = tt;
        stopped = stopped_at g.D.Disk.seen g.D.Disk.may_leave g.D.Disk.has_failed g.D.Disk.moment g.D.Disk.left_since
            lands cells recalled inv.between left after c.sit_batch.new.disk c.sit_batch.new.mark given
            (consumed_more g.D.Disk.seen g.D.Disk.may_leave g.D.Disk.has_failed g.D.Disk.moment g.D.Disk.left_since
            lands cells recalled inv.between left bytes c.in-Ok.ensures.bytes.0) batch (last_line (lines_in given).rest)
            (pull_lines g.D.Disk.seen g.D.Disk.may_leave g.D.Disk.has_failed g.D.Disk.moment g.D.Disk.left_since
            lands cells recalled inv.between bytes) (pull_whole g.D.Disk.seen g.D.Disk.may_leave g.D.Disk.has_failed
            g.D.Disk.moment g.D.Disk.left_since
            lands cells recalled inv.between bytes)
            (counter_of c.sit_batch.new.clerk) inv.sound c.sit_batch.ensures.sound c.in_err-sit_batch.field-0.0 failed
            c.in_err-sit_batch.ensures.batch;
        why = cause_at g.D.Disk.seen g.D.Disk.may_leave g.D.Disk.has_failed g.D.Disk.moment g.D.Disk.left_since
            lands cells recalled inv.between left after c.sit_batch.new.disk c.sit_batch.new.mark given
            (consumed_more g.D.Disk.seen g.D.Disk.may_leave g.D.Disk.has_failed g.D.Disk.moment g.D.Disk.left_since
            lands cells recalled inv.between left bytes c.in-Ok.ensures.bytes.0) batch (last_line (lines_in given).rest)
            (pull_lines g.D.Disk.seen g.D.Disk.may_leave g.D.Disk.has_failed g.D.Disk.moment g.D.Disk.left_since
            lands cells recalled inv.between bytes) (pull_whole g.D.Disk.seen g.D.Disk.may_leave g.D.Disk.has_failed
            g.D.Disk.moment g.D.Disk.left_since
            lands cells recalled inv.between bytes)
            (counter_of c.sit_batch.new.clerk) inv.sound c.sit_batch.ensures.sound c.in_err-sit_batch.field-0.0
            (g.R.Source.has_failed c.pull.new.self) failed c.in_err-sit_batch.ensures.batch;
      };
    })

pub pulls-preserved : goal.pulls-preserved
pulls-preserved g c =
    let cells = c.lands_have_cells.ensures.law in
    let lands = described_have_cells cells c.descriptions_stay.ensures.law in
    let recalled = c.replayed_records_are_committed.ensures.law in
    let inv = c.pulls.invariant in
    let bytes = take c.in-Ok.count c.pull.new.buf in
    let e = c.in_ok-sit_batch.ensures in
    record {
      between = pulled g.D.Disk.seen g.D.Disk.may_leave g.D.Disk.has_failed g.D.Disk.moment g.D.Disk.left_since
          lands cells recalled inv.between c.sit_batch.new.disk c.sit_batch.new.mark
          (g.W.Sink.has_failed c.sit_batch.new.sink) bytes c.sit_batch.new.line (counter_of c.sit_batch.new.clerk)
          (c.pulls.given + c.in-Ok.count) c.in-Ok.ensures.bytes.0 e.batch e.rest
          (omega (arith, length-take c.in-Ok.count c.pull.new.buf, c.in-Ok.ensures.bound));
      up_to = e.batch.2;
      sound = c.sit_batch.ensures.sound;
      rows = omega (arith, c.sit_batch.ensures.rows, inv.rows, length-take c.in-Ok.count c.pull.new.buf, c.in-Ok.ensures.bound);
      source_works = c.in-Ok.ensures.failed ∙ inv.source_works;
      sink_works = e.batch.5;
    }

pub returns : goal.returns
returns g c =
    let cells = c.lands_have_cells.ensures.law in
    let lands = described_have_cells cells c.descriptions_stay.ensures.law in
    let recalled = c.replayed_records_are_committed.ensures.law in
    let inv = c.pulls.invariant in
    record {
      desk = record {
        answers = tt;
        all = tt;
        stopped = at_once g.D.Disk.seen g.D.Disk.may_leave g.D.Disk.has_failed g.D.Disk.moment g.D.Disk.left_since
            lands cells recalled inv.between c.pulls.mark inv.sound inv.up_to inv.between.consumed;
        why = inr (beyond g.D.Disk.seen g.D.Disk.may_leave g.D.Disk.has_failed g.D.Disk.moment g.D.Disk.left_since
            inv.between (omega arith));
      };
    }
