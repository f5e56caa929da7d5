-- Each call has a script less.
use Rattle.std.proofs.Common.{vec_len}
use Rattle.title_office.proofs.workers.crew.+run_jobs.Given as goal

abbrev pub decreases-run_jobs : goal.decreases-run_jobs
decreases-run_jobs g l = vec_len l.jobs.scripts
