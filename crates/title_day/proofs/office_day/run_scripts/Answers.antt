-- No worker has ended with a fault, so that each transaction is counted.
use Rattle.title_day.proofs.OfficeCounts.{worked_told}
use Rattle.title_day.proofs.office_day.run_scripts.Goals as goal

pub returns-in-None-clause-told : goal.returns-in-None-clause-told
returns-in-None-clause-told g c =
    worked_told c.as_slice.result.now c.in-Ok.worked.items c.args.scripts.items (λ w. w.examiner) (λ w. w.outcomes.items)
    (λ w. w.aborted) (λ w. w.given_up) (λ w. w.fault) c.as_slice.ensures.value c.in-Ok.ensures.workers c.in-Ok.ensures.counted
    c.in-None.ensures.first
