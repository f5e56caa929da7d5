-- The units of the owners so far, or the most that the sum can be.
use Rattle.std.{proofs.Common.{◌≡◌, ◌^◌, ◌-◌, min, take}, specs.List.{sum_by}}
use Rattle.title_plat.proofs.once.sums_to_whole.Given as goal

abbrev pub invariant-loop-row : goal.invariant-loop-row
invariant-loop-row l = l.sum ≡ min (sum_by (λ row. row.share) (take l.row-index l.owners)) (2 ^ 64 - 1)
