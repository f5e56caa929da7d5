-- One byte more that is no quote, or the first quote.
use Rattle.std.proofs.Common.{◌+◌, ℕ, ap, refl}
use Rattle.csv.specs.Writing.{escaped}
use Rattle.title_page.proofs.Texts.{plain_byte_more, quote_found}
use Rattle.title_page.proofs.page.first_quote.Goals as goal

pub loop-byte-init : goal.loop-byte-init
unfolding escaped
loop-byte-init c = (refl, refl)

pub loop-byte-preserved : goal.loop-byte-preserved
loop-byte-preserved c = (
  plain_byte_more c.args.field.now c.loop-byte.byte-index c.loop-byte-test.true c.if-byte-eq34.false c.loop-byte.invariant.0,
  ap (λ (n : ℕ). n + 1) c.loop-byte.invariant.1,
)

pub returns-then-byte-eq34-clause-some : goal.returns-then-byte-eq34-clause-some
returns-then-byte-eq34-clause-some c =
    quote_found c.args.field.now c.loop-byte.at c.loop-byte.byte-index c.loop-byte.invariant.1 c.loop-byte-test.true
    c.if-byte-eq34.true c.loop-byte.invariant.0
