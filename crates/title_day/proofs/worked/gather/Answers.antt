-- One worker's outcomes more are gathered.
use Rattle.title_day.proofs.OfficeCounts.{more_gathered}
use Rattle.title_day.proofs.worked.gather.Goals as goal

pub loop-one-preserved : goal.loop-one-preserved
loop-one-preserved g c =
    more_gathered c.loop-one.rest.items c.pop_front.new.self.items c.in-Some.one c.loop-one.gathered.items
    c.move_behind.new.gathered.items _ (λ w. w.outcomes.items) c.in-Some.ensures.items c.in_ok-move_behind.ensures.moved
    c.loop-one.invariant
