use Rattle.std.proofs.Common.{◌≡◌, map, take}
use Rattle.title_day.specs.OfficeDays.{tally_of}
use Rattle.title_day.proofs.worked.tallies.Given as goal

abbrev pub invariant-loop-one : goal.invariant-loop-one
invariant-loop-one g l =
    l.tallies.items ≡ map (λ w. tally_of w.examiner w.outcomes.items w.aborted w.given_up) (take l.one-index l.worked)
