-- Fields that aren't UTF-8 say nothing, and those that are say what their row does.
use Rattle.std.proofs.{Common.{sym, inr, refl}, lemmas.Bool.{false≢true}}
use Rattle.csv.specs.Records.{fields_of}
use Rattle.title_counter.proofs.clerk.Clerk.take_fields.Goals as goal
use Rattle.title_plan.specs.Laws.Names.{is_text, not_text, texts_from}

pub returns-in_default-clause-err : goal.returns-in_default-clause-err
returns-in_default-clause-err c =
    let nothing = not_text (fields_of c.args.raw)
    (λ text. false≢true (c.in_default.ensures.refused (texts_from (fields_of c.args.raw) text))) in
    inr (rw nothing refl)

pub returns-clause-ok : goal.returns-clause-ok
returns-clause-ok c =
    let text = rw c.in-Ok.ensures.same at c.in-Ok.ensures.text in
    let says = rw c.in-Ok.ensures.same at c.in-Some.ensures.said in
    rw (is_text (fields_of c.args.raw) _ text (sym says)) c.take_said.ensures.ok

pub returns-clause-err : goal.returns-clause-err
returns-clause-err c =
    let text = rw c.in-Ok.ensures.same at c.in-Ok.ensures.text in
    let says = rw c.in-Ok.ensures.same at c.in-Some.ensures.said in
    rw (is_text (fields_of c.args.raw) _ text (sym says)) c.take_said.ensures.err
