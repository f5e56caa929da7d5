-- Where no thread was started, nothing came of the script.
use Rattle.std.proofs.Common.{◌∙◌}
use Rattle.title_office.{specs.Turns.{report_of}, proofs.Runs.{unstarted}}
use Rattle.title_office.proofs.workers.pledge.Pledge.answer.Goals as goal

pub returns-in-None : goal.returns-in-None
returns-in-None g c = record {
  run = unstarted g.B.Room.setting c.args.self.script.value (report_of {B = g.row.B.Denot} c.unstarted.result)
      (c.unstarted.ensures.examiner ∙ c.args.self.own) c.unstarted.ensures.seat c.unstarted.ensures.fault c.unstarted.ensures.outcomes;
}
