use Rattle.std.proofs.Common.{◌≡◌, replicate}
use Rattle.title_dealing.specs.Dealing.{empty_hand}
use Rattle.title_dealing.proofs.dealing.empty_hands.Given as goal

abbrev pub invariant-loop-examiner : goal.invariant-loop-examiner
invariant-loop-examiner l = l.hands.items ≡ replicate l._examiner empty_hand
