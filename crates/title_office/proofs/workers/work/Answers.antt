-- What the threads have run is said of the scripts.
use Rattle.std.proofs.Common.{◌≡◌, None, IfSome, IsSome}
use Rattle.title_office.specs.Turns.{EndsWorker, report_of}
use Rattle.title_office.proofs.Runs.{run_examiners, run_counted, run_transactions, run_each, own_seat}
use Rattle.title_office.proofs.workers.work.Goals as goal

pub returns-in-Ok-new-clause-workers : goal.returns-in-Ok-new-clause-workers
returns-in-Ok-new-clause-workers g c =
    let run = rw c.in-Ok-new.ensures.jobs at c.run_threads.ensures.run in
    run_examiners g.B.Room.setting (report_of {B = g.row.B.Denot}) c.args.scripts.items c.run_threads.result.items run

pub returns-in-Ok-new-clause-counted : goal.returns-in-Ok-new-clause-counted
returns-in-Ok-new-clause-counted g c =
    let run = rw c.in-Ok-new.ensures.jobs at c.run_threads.ensures.run in
    run_counted g.B.Room.setting (report_of {B = g.row.B.Denot}) c.args.scripts.items c.run_threads.result.items run

pub returns-in-Ok-new-clause-runs : goal.returns-in-Ok-new-clause-runs
returns-in-Ok-new-clause-runs g c =
    let run = rw c.in-Ok-new.ensures.jobs at c.run_threads.ensures.run in
    run_transactions g.B.Room.setting (report_of {B = g.row.B.Denot}) c.args.scripts.items c.run_threads.result.items run

pub returns-in-Ok-new-clause-seats : goal.returns-in-Ok-new-clause-seats
returns-in-Ok-new-clause-seats g c =
    run_each g.B.Room.setting (report_of {B = g.row.B.Denot}) (λ w. IfSome w.seat (λ s. s.examiner ≡ w.examiner))
    c.in-Ok-new.jobs.scripts.items c.run_threads.result.items (λ script w h. own_seat g.B.Room.setting script (report_of w) h)
    c.run_threads.ensures.run

pub returns-in-Ok-new-clause-seated : goal.returns-in-Ok-new-clause-seated
returns-in-Ok-new-clause-seated g c =
    run_each g.B.Room.setting (report_of {B = g.row.B.Denot}) (λ w. w.fault ≡ None → IsSome w.seat) c.in-Ok-new.jobs.scripts.items
    c.run_threads.result.items (λ script w h. h.4) c.run_threads.ensures.run

pub returns-in-Ok-new-clause-faults : goal.returns-in-Ok-new-clause-faults
returns-in-Ok-new-clause-faults g c =
    run_each g.B.Room.setting (report_of {B = g.row.B.Denot}) (λ w. IfSome w.fault EndsWorker) c.in-Ok-new.jobs.scripts.items
    c.run_threads.result.items (λ script w h. h.2) c.run_threads.ensures.run
