use Rattle.std.proofs.{Common.{sym, inr, arith}, lemmas.{Bool.{false≢true}, Result.{err_from_is_err_and}}}
use Rattle.csv.specs.Records.{fields_of}
use Rattle.title_plan.{specs.{Asked.{asked_in}, Onto.{first_of}, Laws.Names.{texts_from}}, proofs.Understood.{not_text, is_text}}
use Rattle.title_plan.proofs.plan.Plan.take_record.Goals as goal

pub returns-in_default-clause-err : goal.returns-in_default-clause-err
returns-in_default-clause-err c =
    inr (not_text c.args.schedule (first_of c.args.stood (asked_in c.args.self.now)) c.args.n (asked_in c.args.self.now)
    (fields_of c.args.raw) (λ text. false≢true (c.in_default.ensures.refused (texts_from (fields_of c.args.raw) text))))

pub returns-in_err-take_said-clause-err : goal.returns-in_err-take_said-clause-err
returns-in_err-take_said-clause-err c =
    let text = rw c.in-Ok.ensures.same at c.in-Ok.ensures.text in
    let says = rw c.in-Ok.ensures.same at c.in-Some.ensures.said in
    let out = err_from_is_err_and c.from_residual.result c.from_residual.ensures.1 in
    rw (out.1, out.2)
    (rw (is_text c.args.schedule (first_of c.args.stood (asked_in c.args.self.now)) c.args.n (asked_in c.args.self.now)
    (fields_of c.args.raw) _ (omega arith) text (sym says))
    c.in_err-take_said.ensures.err)

pub returns-clause-ok : goal.returns-clause-ok
returns-clause-ok c =
    let text = rw c.in-Ok.ensures.same at c.in-Ok.ensures.text in
    let says = rw c.in-Ok.ensures.same at c.in-Some.ensures.said in
    rw (is_text c.args.schedule (first_of c.args.stood (asked_in c.args.self.now)) c.args.n (asked_in c.args.self.now)
    (fields_of c.args.raw) _ (omega arith) text (sym says))
    c.in_ok-take_said.ensures.ok
