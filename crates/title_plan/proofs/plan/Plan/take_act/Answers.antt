use Rattle.std.proofs.{Common.{refl, inl, inr}, lemmas.Result.{err_from_is_err_and}}
use Rattle.title_plan.specs.{Asked.{asked_in}, Rows.{done}, Laws.Acts.{act_asks}}
use Rattle.title_plan.proofs.plan.Plan.take_act.Goals as goal

pub returns-in_err-asked-clause-err : goal.returns-in_err-asked-clause-err
returns-in_err-asked-clause-err c =
    let act = act_asks c.args.schedule c.args.n (asked_in c.args.self.now) c.args.examiner (done c.args.act.now) in
    let out = err_from_is_err_and c.from_residual.result c.from_residual.ensures.1 in
    rw (out.1, out.2, act) (elim c.in_err-asked.ensures.err [ inl memory ↦ inl memory | inr due ↦ inr (rw due refl) ])

pub returns-clause-ok : goal.returns-clause-ok
returns-clause-ok c =
    let act = act_asks c.args.schedule c.args.n (asked_in c.args.self.now) c.args.examiner (done c.args.act.now) in
    rw (act, c.in_ok-asked.ensures.ok) c.take_request.ensures.ok

pub returns-clause-err : goal.returns-clause-err
returns-clause-err c =
    let act = act_asks c.args.schedule c.args.n (asked_in c.args.self.now) c.args.examiner (done c.args.act.now) in
    rw (act, c.in_ok-asked.ensures.ok) c.take_request.ensures.err
