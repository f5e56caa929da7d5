-- The records are those of the trace.
use Rattle.std.proofs.{Common.{sym, ap, ◌∙◌, subst, reverse}, lemmas.List.{reverse-reverse}}
use Rattle.title_land.specs.Depth.{depth}
use Rattle.title_chain.specs.Alone.{IsSerial}
use Rattle.title_settle.specs.Settling.{IsSettled}
use Rattle.title_trace.specs.Laws.Law.{committed_serial}
use Rattle.title_office.proofs.Settling.{uneven}
use Rattle.title_office.proofs.books.Books.settled.Goals as goal

pub returns-in-Err : goal.returns-in-Err
returns-in-Err g c =
    let trace = c.self.inside.desk.trace in
    let rows = c.records-records.result.now in
    record {
      settled = uneven g.B.Room.setting trace rows c.args.outcomes.now c.in-Err.why c.self.invariant.1 c.in_default.ensures.first
          (ap reverse (sym c.records-records.ensures.records) ∙ reverse-reverse rows) c.in-Err.ensures.uneven;
    }

pub returns-in-Ok : goal.returns-in-Ok
returns-in-Ok g c =
    let trace = c.self.inside.desk.trace in
    let done = sym c.records-records.ensures.records ∙ ap reverse (sym c.in-Ok.ensures.copy) in
    record {
      settled = (
        trace,
        c.self.invariant.1,
        c.in_default.ensures.first,
        done,
        subst (IsSerial depth g.B.Room.setting.townships) done
            (committed_serial depth g.B.Room.setting c.self.invariant.2 trace c.self.invariant.1),
        subst (λ l. IsSettled l c.args.outcomes.now) (sym c.in-Ok.ensures.copy) c.in_default-compare.ensures.settled,
      );
    }
