use Rattle.std.proofs.Common.{◌≡◌, ◌+◌, drop}
use Rattle.title_lasting.specs.Tells.{undescribed}
use Rattle.title_lasting.proofs.checking.undescribed.Given as goal

abbrev pub invariant-loop-at : goal.invariant-loop-at
invariant-loop-at l = undescribed l.n l.lines.items ≡ undescribed (l.n + l.at) (drop l.at l.lines.items)
