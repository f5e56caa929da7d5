-- No smaller power of two is the number below the line.
use Rattle.std.proofs.Common.{◌≡◌, ◌<◌, ◌^◌, ℕ}
use Rattle.title_share.proofs.share.weight.Given as goal

abbrev pub invariant-loop-k : goal.invariant-loop-k
invariant-loop-k l = (j : ℕ) → j < l.k → l.bottom ≡ 2 ^ j → ⊥
