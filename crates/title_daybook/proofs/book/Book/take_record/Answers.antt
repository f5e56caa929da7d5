-- A record that isn't UTF-8 says nothing, and one that is says what its row does.
use Rattle.std.{proofs.Common.{◌≡◌, refl, sym, inl, inr, List, ℕ, true, Option, None}, specs.{List.{list_all}, Str.{is_utf8}}}
use Rattle.std.proofs.lemmas.Bool.{cases_Bool, false≢true}
use Rattle.csv.specs.Records.{AllText, fields_of}
use Rattle.title_plan.specs.{Rows.{row_in}, declared.row.Row.{Row}, Laws.Names.{texts_from, texts_true}}
use Rattle.title_daybook.specs.Lines.{said_by}
use Rattle.title_daybook.proofs.book.Book.take_record.Goals as goal

not_text : (fields : List (List ℕ)) → (list_all is_utf8 fields ≡ true → ⊥) → said_by fields ≡ None
not_text fields h = elim (cases_Bool (list_all is_utf8 fields)) [
  | inl text ↦ absurd (h text)
  | inr other ↦ rw other refl
]

is_text : (fields : List (List ℕ)) (found : Option (Row (List ℕ))) → AllText fields → row_in fields ≡ found → said_by fields ≡ found
is_text fields found text is = rw (texts_true fields text, is) refl

pub returns-in_default-clause-err : goal.returns-in_default-clause-err
returns-in_default-clause-err c =
    let nothing = not_text (fields_of c.args.raw)
    (λ text. false≢true (c.in_default.ensures.refused (texts_from (fields_of c.args.raw) text))) in
    inr (refl, rw nothing refl)

pub returns-clause-ok : goal.returns-clause-ok
returns-clause-ok c =
    let text = rw c.in-Ok.ensures.same at c.in-Ok.ensures.text in
    let says = rw c.in-Ok.ensures.same at c.in-Some.ensures.said in
    rw (is_text (fields_of c.args.raw) _ text (sym says)) c.in_ok-take_said.ensures.ok
