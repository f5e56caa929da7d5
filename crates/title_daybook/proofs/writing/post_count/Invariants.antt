use Rattle.std.proofs.Common.{◌≡◌, ◌≤◌, length, take}
use Rattle.title_daybook.specs.Added.{posts_of}
use Rattle.title_daybook.proofs.writing.post_count.Given as goal

abbrev pub invariant-loop-step : goal.invariant-loop-step
invariant-loop-step l = record { counted : l.count ≡ length (posts_of (take l.step-index l.steps)); few : l.count ≤ l.step-index }
