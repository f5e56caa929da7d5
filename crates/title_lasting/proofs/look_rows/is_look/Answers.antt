-- Fields that aren't UTF-8 say nothing, and those that are say what their row does.
use Rattle.std.proofs.{Common.{refl}, lemmas.Bool.{false≢true}}
use Rattle.csv.specs.Records.{fields_of}
use Rattle.title_plan.specs.{Rows.{row_in}, Laws.Names.{is_text, not_text, texts_from}}
use Rattle.title_lasting.proofs.look_rows.is_look.Goals as goal

pub returns-in_default : goal.returns-in_default
returns-in_default c =
    let nothing = not_text (fields_of c.args.raw)
    (λ text. false≢true (c.in_default.ensures.refused (texts_from (fields_of c.args.raw) text))) in
    record { look = rw nothing refl }

pub returns : goal.returns
returns c =
    let fields = fields_of c.args.raw in
    let text = rw c.in-Ok.ensures.same at c.in-Ok.ensures.text in
    let looks = rw c.in-Ok.ensures.same at c.text_looks.ensures.looks in
    record { look = rw (is_text fields (row_in fields) text refl) looks }
