-- An act asks for one step, which is served.
use Rattle.std.proofs.{Common.{inl}, lemmas.Result.{err_from_is_err_and}}
use Rattle.title_plan.specs.Rows.{done}
use Rattle.title_counter.{specs.Views.{answered, counter_of}, proofs.RowLaws.{if_err, if_ok, step_due, step_fault}}
use Rattle.title_counter.proofs.clerk.Clerk.take_step.Goals as goal

pub returns-in_err-asked-clause-err : goal.returns-in_err-asked-clause-err
returns-in_err-asked-clause-err c =
    let out = err_from_is_err_and c.from_residual.result c.from_residual.ensures.1 in
    rw (out.1, out.2) (step_fault (counter_of c.args.self.now) c.args.examiner (done c.args.act.now) _ c.in_err-asked.ensures.err)

pub returns-clause-ok : goal.returns-clause-ok
returns-clause-ok c =
    if_ok c.serve.result c.serve.ensures.ok
    (λ a is. step_due (counter_of c.args.self.now) c.args.examiner (done c.args.act.now) c.in_ok-asked.asked
    (answered a c.serve.new.self) c.in_ok-asked.ensures.ok is)

pub returns-clause-err : goal.returns-clause-err
returns-clause-err c = if_err c.serve.result c.serve.ensures.memory (λ e memory. inl memory)
