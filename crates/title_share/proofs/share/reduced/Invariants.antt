-- What is left to halve has the same lowest terms.
use Rattle.std.proofs.Common.{◌≡◌, ◌≤◌}
use Rattle.title_share.specs.Share.{lowest}
use Rattle.title_share.proofs.share.reduced.Given as goal

abbrev pub invariant-loop-exponent : goal.invariant-loop-exponent
invariant-loop-exponent l = (lowest 32 l.fn.units ≡ lowest l.exponent l.above) × (l.exponent ≤ 32)

abbrev pub decreases-loop-exponent : goal.decreases-loop-exponent
decreases-loop-exponent l = l.exponent
