-- The requests are served, or those before one that wants memory.
use Rattle.title_desk.proofs.Singles.{all_served, end_wants, step_wants}
use Rattle.title_desk.proofs.desk.Desk.serve_in_turn.Goals as goal

pub returns-in-Memory-reply-clause-broken : goal.returns-in-Memory-reply-clause-broken
returns-in-Memory-reply-clause-broken g c m =
    step_wants c.args.self.now c.step-reply.new.self c.args.examiner c.args.ask c.begin.new.self c.begin.result c.in_default.not-Memory
    c.begin.ensures.told (rw c.in-Memory-reply.is at c.step-reply.ensures.told)

pub returns-in-Memory-serve-clause-broken : goal.returns-in-Memory-serve-clause-broken
returns-in-Memory-serve-clause-broken g c m =
    end_wants c.args.self.now c.serve.new.self c.args.examiner c.args.ask c.begin.new.self c.begin.result c.in_default.not-Memory
    c.begin.ensures.told c.step-reply.new.self c.step-reply.result c.in_default-reply.not-Memory c.step-reply.ensures.told
    c.in-Memory-serve.ensures.told

pub returns-clause-added : goal.returns-clause-added
returns-clause-added g c other =
    all_served c.args.self.now c.serve.new.self c.args.examiner c.args.ask c.begin.new.self c.begin.result c.in_default.not-Memory
    c.begin.ensures.told c.step-reply.new.self c.step-reply.result c.in_default-reply.not-Memory c.step-reply.ensures.told
    c.ending.result c.serve.result c.ending.ensures.ending c.in_default-serve.not-Memory c.serve.ensures.told c.is_due.ensures.due
