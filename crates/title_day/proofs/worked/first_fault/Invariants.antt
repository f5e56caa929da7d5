use Rattle.std.proofs.Common.{◌≡◌, drop, map}
use Rattle.title_day.specs.OfficeDays.{first_there}
use Rattle.title_day.proofs.worked.first_fault.Given as goal

abbrev pub invariant-loop-one : goal.invariant-loop-one
invariant-loop-one g l = first_there (map (λ w. w.fault) (drop l.one-index l.worked)) ≡ first_there (map (λ w. w.fault) l.worked)
