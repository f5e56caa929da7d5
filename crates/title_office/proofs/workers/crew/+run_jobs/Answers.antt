-- The last job's answer stands behind those of the jobs before it.
use Rattle.title_office.{specs.Turns.{report_of}, proofs.Runs.{run_last}}
use Rattle.title_office.proofs.workers.crew.+run_jobs.Goals as goal

pub returns-clause-run : goal.returns-clause-run
returns-clause-run g t c =
    run_last g.B.Room.setting (report_of {B = g.row.B.Denot}) c.pop.new.self.scripts.items c.args.jobs.scripts.items c.in-Some.job.script
    c.pledge-pledge.result.script.value c.run_jobs-worked.result.items c.push_reserved.new.self.items c.answer.result
    c.run_jobs-worked.ensures.run c.answer.ensures.run c.pledge-pledge.ensures.script c.in-Some.ensures.last c.push_reserved.ensures.items
