-- Halving ends in lowest terms.
use Rattle.std.proofs.Common.{arith}
use Rattle.title_share.specs.{Share.{lowest}, Laws.ShareLaws.{reduced_more, reduced_done}}
use Rattle.title_share.proofs.share.reduced.Goals.{then-loop-exponent-test+else-above-eq0, else-loop-exponent-test}
use Rattle.title_share.proofs.share.reduced.Goals as goal

pub loop-exponent-preserved : goal.loop-exponent-preserved
loop-exponent-preserved c = (
  reduced_more (lowest 32 c.args.units) c.loop-exponent.exponent c.loop-exponent.above c.loop-exponent-test.true c.if-above-eq0.true
      c.loop-exponent.invariant.0,
  (let low = c.loop-exponent.invariant.1 in omega arith),
)

pub returns : goal.returns
returns c = record {
  lowest =
      reduced_done (lowest 32 c.args.units) c.loop-exponent.exponent c.loop-exponent.above c.loop-exponent.invariant.1
      (λ some even. elim c.loop-exponent-test.branch [
        | then-loop-exponent-test+else-above-eq0 w ↦ w.if-above-eq0.false even
        | else-loop-exponent-test w ↦ omega arith
      ])
      c.loop-exponent.invariant.0;
}
