use Rattle.std.{proofs.Common.{◌≡◌, length}, specs.List.{All}}
use Rattle.title_dealing.specs.{Turns.{IsAskedBy}, Dealing.{with_lines_each}}
use Rattle.title_dealing.proofs.dealing.deal_lines.Given as goal

abbrev pub invariant-loop-line : goal.invariant-loop-line
invariant-loop-line l = record {
  many : length l.hands.items ≡ length l.fn.hands.items;
  asked : All (IsAskedBy (length l.fn.hands.items)) l.lines.items;
  dealt : with_lines_each 1 l.lines.items l.hands.items ≡ with_lines_each 1 l.fn.lines.items l.fn.hands.items;
}

abbrev pub decreases-loop-line : goal.decreases-loop-line
decreases-loop-line l = length l.lines.items
