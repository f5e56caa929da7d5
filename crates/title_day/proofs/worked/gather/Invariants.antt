use Rattle.std.{proofs.Common.{◌≡◌, ◌++◌, length}, specs.List.{flat_map}}
use Rattle.title_day.proofs.worked.gather.Given as goal

abbrev pub invariant-loop-one : goal.invariant-loop-one
invariant-loop-one g l =
    l.gathered.items ++ flat_map (λ w. w.outcomes.items) l.rest.items
    ≡ l.fn.stood.items ++ flat_map (λ w. w.outcomes.items) l.fn.worked.items

abbrev pub decreases-loop-one : goal.decreases-loop-one
decreases-loop-one g l = length l.rest.items
