use Rattle.std.proofs.Common.{◌≡◌, ◌+◌, ◌++◌, length, map, suc}
use Rattle.title_turns.specs.Dealt.{told_by}
use Rattle.title_dealing.specs.Dealing.{told_of}
use Rattle.title_dealing.proofs.dealing.scripts_of.Given as goal

abbrev pub invariant-loop-hand : goal.invariant-loop-hand
invariant-loop-hand l = record {
  many : l.examiner + length l.hands.items ≡ length l.fn.hands.items;
  told : map told_by l.scripts.items ++ told_of (suc l.examiner) l.hands.items ≡ told_of 1 l.fn.hands.items;
}

abbrev pub decreases-loop-hand : goal.decreases-loop-hand
decreases-loop-hand l = length l.hands.items
