-- A power of two times its weight is the whole.
use Rattle.std.proofs.Common.{◌≡◌, ◌≤◌, ◌<◌, ◌*◌, ◌^◌, ◌%◌, ◌-◌, ◌∙◌, ℕ, ap, arith}
use Rattle.title_share.specs.Laws.ShareLaws.{weight_is, power_is}
use Rattle.title_share.proofs.share.weight.Goals as goal

pub returns-then-bottom-k : goal.returns-then-bottom-k
returns-then-bottom-k c =
    let low : c.loop-k.k < 33 = omega arith in
    let within : c.loop-k.k ≤ 32 = omega arith in
    let is : c.args.bottom ≡ 2 ^ c.loop-k.k = c.if-bottom-k.true ∙ power_is c.loop-k.k low in
    let w = weight_is c.loop-k.k low in
    record { weight = ((c.loop-k.k, within, is), ap (λ (b : ℕ). 1 * 2 ^ (32 - c.loop-k.k) % 18446744073709551616 * b) is ∙ w.0, w.1) }
