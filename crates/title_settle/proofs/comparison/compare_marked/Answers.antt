-- One place more is right, or the first at fault is found.
use Rattle.std.proofs.{Common.{◌+◌, refl, arith}, lemmas.{Option.{slice_get_read}, Result.{err_from_is_err_and}}}
use Rattle.title_settle.proofs.Placing.{right_more, all_settled, uneven_at}
use Rattle.title_settle.proofs.comparison.compare_marked.Goals as goal

pub returns-in_err-compare_at-clause-uneven : goal.returns-in_err-compare_at-clause-uneven
returns-in_err-compare_at-clause-uneven c =
    let out = err_from_is_err_and c.from_residual.result c.from_residual.ensures.1 in
    let r = c.index-records-index.result in
    let at = slice_get_read c.args.records.now _ c.loop-index.index r refl c.loop-index-test.true c.index-records-index.is in
    rw (out.1, out.2)
    (uneven_at c.args.records.now c.args.outcomes.now c.loop-index.index (c.loop-index.index + 1) r c.in_err-compare_at.field-0.0
    (omega arith) at c.requires.known c.loop-index.invariant c.in_err-compare_at.ensures.wrong)

pub loop-index-preserved : goal.loop-index-preserved
loop-index-preserved c =
    let r = c.index-records-index.result in
    let at = slice_get_read c.args.records.now _ c.loop-index.index r refl c.loop-index-test.true c.index-records-index.is in
    right_more c.args.records.now c.args.outcomes.now c.loop-index.index (c.loop-index.index + 1) r (omega arith) at
    c.in_ok-compare_at.ensures.right c.loop-index.invariant

pub returns-clause-settled : goal.returns-clause-settled
returns-clause-settled c =
    all_settled c.args.records.now c.args.outcomes.now c.loop-index.index c.loop-index-test.false c.requires.known c.loop-index.invariant
