-- A row is read where the reader's record ends in it.
use Rattle.std.proofs.Common.{◌∙◌, ◌++◌, ◌∷◌, refl, inr, sym}
use Rattle.csv.specs.Records.{fields_of}
use Rattle.title_journal.specs.Blocks.{line_feed}
use Rattle.title_daybook.proofs.RowFields.{blank_row, returned, no_record, not_blank, one_record, over_record}
use Rattle.title_daybook.proofs.lines.read_line.Goals as goal

pub returns-then-is_empty-clause-err : goal.returns-then-is_empty-clause-err
returns-then-is_empty-clause-err c = λ rest at. inr (refl, blank_row c.args.line.now (sym c.is_empty.ensures ∙ c.if-is_empty.true))

pub returns-then-has_return-clause-err : goal.returns-then-has_return-clause-err
returns-then-has_return-clause-err c = λ rest at. inr (refl, returned c.args.line.now (sym c.has_return.ensures.has ∙ c.if-has_return.true))

pub returns-then-not-found-clause-err : goal.returns-then-not-found-clause-err
returns-then-not-found-clause-err c = λ rest at.
    let line = c.args.line.now in
    let own = sym c.has_return.ensures.has ∙ c.if-has_return.false in
    let some = not_blank line (sym c.is_empty.ensures ∙ c.if-is_empty.false) in
    let took = c.in_ok-found.ensures.took (line ++ line_feed ∷ rest) at in
    inr (
      refl,
      no_record line rest (fields_of c.read_record.new.raw) c.read_record.new.reader c.in_ok-found.found some own c.requires.row took
          c.if-not-found.true,
    )

pub returns-then-goes_over-clause-err : goal.returns-then-goes_over-clause-err
returns-then-goes_over-clause-err c = λ rest at.
    let line = c.args.line.now in
    let own = sym c.has_return.ensures.has ∙ c.if-has_return.false in
    let some = not_blank line (sym c.is_empty.ensures ∙ c.if-is_empty.false) in
    let took = c.in_ok-found.ensures.took (line ++ line_feed ∷ rest) at in
    inr (
      refl,
      over_record line rest (fields_of c.read_record.new.raw) c.read_record.new.reader c.in_ok-found.found some own c.requires.row took
          c.if-not-found.false (sym c.goes_over.ensures.over ∙ c.if-goes_over.true),
    )

pub returns-clause-fields : goal.returns-clause-fields
returns-clause-fields c = λ rest at.
    let line = c.args.line.now in
    let own = sym c.has_return.ensures.has ∙ c.if-has_return.false in
    let some = not_blank line (sym c.is_empty.ensures ∙ c.if-is_empty.false) in
    let took = c.in_ok-found.ensures.took (line ++ line_feed ∷ rest) at in
    one_record line rest (fields_of c.read_record.new.raw) c.read_record.new.reader c.in_ok-found.found some own c.requires.row took
    c.if-not-found.false (sym c.goes_over.ensures.over ∙ c.if-goes_over.false)
