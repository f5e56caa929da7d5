-- What was left to show of `words_of`.
use Rattle.std.proofs.Common.{◌≤◌, length, arith}
use Rattle.title_aliquot.specs.{Views.{words_view}, Laws.Texts.{says_from, bad_letter, is_lots, is_bad_text}}
use Rattle.title_aliquot.proofs.describe.words_of.Goals as goal

pub returns-in-Ok-clause-says : goal.returns-in-Ok-clause-says
returns-in-Ok-clause-says c =
    let short : length c.args.text.now ≤ 1000 = omega arith in
    says_from c.args.text.now (words_view c.in-Ok.words) short c.in-Ok.ensures.answers

pub returns-then-branch-clause-fault : goal.returns-then-branch-clause-fault
returns-then-branch-clause-fault c = λ n.
    let short : length c.args.text.now ≤ 1000 = omega arith in
    let bad = bad_letter c.args.text.now c.in-Err-Letter.index short (rw c.in-Err-Letter.field-0-is at c.in-Err-Letter.ensures.answers) in
    is_lots c.args.text.now c.in-Err-Letter.index c.in_ok-is_lot.field-0 bad c.in_ok-is_lot.ensures.lot c.if-branch.true

pub returns-clause-fault : goal.returns-clause-fault
returns-clause-fault c = λ n.
    let short : length c.args.text.now ≤ 1000 = omega arith in
    let bad = bad_letter c.args.text.now c.in-Err-Letter.index short (rw c.in-Err-Letter.field-0-is at c.in-Err-Letter.ensures.answers) in
    is_bad_text c.args.text.now c.in-Err-Letter.index c.offset_of.result c.in_ok-is_lot.field-0 bad
    c.in_ok-is_lot.ensures.lot c.if-branch.false
    c.offset_of.ensures.offset
