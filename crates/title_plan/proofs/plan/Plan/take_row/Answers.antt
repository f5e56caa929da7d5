use Rattle.std.proofs.{Common.{◌∙◌, sym}, lemmas.Result.{err_from_is_err_and}}
use Rattle.csv.specs.Records.{fields_of}
use Rattle.title_plan.{specs.Asked.{asked_in}, proofs.Alone.{row_on_none}}
use Rattle.title_plan.proofs.plan.Plan.take_row.Goals as goal

pub returns-in_err-take_record-clause-err : goal.returns-in_err-take_record-clause-err
returns-in_err-take_record-clause-err c =
    let alone = row_on_none c.args.schedule c.args.n (asked_in c.args.self.now) (fields_of c.args.raw) in
    let out = err_from_is_err_and c.from_residual.result c.from_residual.ensures.1 in
    rw (out.1, out.2) (rw alone at c.in_err-take_record.ensures.err)

pub returns-clause-ok : goal.returns-clause-ok
returns-clause-ok c =
    sym (row_on_none c.args.schedule c.args.n (asked_in c.args.self.now) (fields_of c.args.raw)) ∙ c.in_ok-take_record.ensures.ok
