-- Each place so far is right.
use Rattle.std.proofs.Common.{ℕ, ◌<◌, suc}
use Rattle.title_settle.specs.Settling.{IsRight}
use Rattle.title_settle.proofs.comparison.compare_marked.Given as goal

abbrev pub invariant-loop-index : goal.invariant-loop-index
invariant-loop-index l = (k : ℕ) → k < l.index → IsRight l.records l.outcomes (suc k)
