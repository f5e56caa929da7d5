use Rattle.std.proofs.Common.{◌≡◌, ◌-◌, length, drop}
use Rattle.title_daybook.specs.{Ends.{past_rows}, Lines.{lines_of}}
use Rattle.title_daybook.proofs.ending.Walk.pass_rows.Given as goal

abbrev pub invariant-rows : goal.invariant-rows
invariant-rows l = past_rows l.fn.self (lines_of l.text) ≡ past_rows l.walk (lines_of (drop l.at l.text))

abbrev pub decreases-rows : goal.decreases-rows
decreases-rows l = length l.text - l.at
