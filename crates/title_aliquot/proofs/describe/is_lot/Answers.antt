-- What was left to show of `is_lot`.
use Rattle.std.{proofs.Common.{◌∙◌, take, drop, ap, sym}, specs.{Prelude.{codes}, Str.{chars}}}
use Rattle.title_grammar.specs.Reading.{word_at}
use Rattle.title_aliquot.specs.{Letters.{letters}, Laws.Texts.{lot_result, no_lot}}
use Rattle.title_aliquot.proofs.describe.is_lot.Goals as goal

pub returns-in-Ok-clause-lot : goal.returns-in-Ok-clause-lot
returns-in-Ok-clause-lot c =
    let read = ap (word_at (codes "lot")) (sym c.new.ensures.new) ∙ c.in-Ok.ensures.read in
    lot_result c.step_may_begin.result (letters (chars c.split_at_letter.result.0.now)) (letters (chars c.split_at_letter.result.1.now))
    (take c.args.index (letters (chars c.args.text.now))) (drop c.args.index (letters (chars c.args.text.now))) _
    c.split_at_letter.ensures.before c.split_at_letter.ensures.after read c.step_may_begin.ensures.may

pub returns-in-Err-Stuck-clause-lot : goal.returns-in-Err-Stuck-clause-lot
returns-in-Err-Stuck-clause-lot c =
    let read = ap (word_at (codes "lot")) (sym c.new.ensures.new) ∙ (rw c.in-Err-Stuck.field-0-is at c.in-Err-Stuck.ensures.read) in
    no_lot (letters (chars c.split_at_letter.result.1.now)) (take c.args.index (letters (chars c.args.text.now)))
    (drop c.args.index (letters (chars c.args.text.now))) _ c.split_at_letter.ensures.after read
