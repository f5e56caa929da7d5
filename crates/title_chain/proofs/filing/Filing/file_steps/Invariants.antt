-- The posts of the steps so far are filed.
use Rattle.std.proofs.Common.{◌≡◌, List, ◌++◌, reverse, take}
use Rattle.title_land.specs.Depth.{depth}
use Rattle.title_chain.specs.{PostSpots.{FiledPost, step_posts}, TractIndexes.{IsFiled}}
use Rattle.title_chain.proofs.filing.Filing.file_steps.Given as goal

abbrev pub invariant-loop-i : goal.invariant-loop-i
invariant-loop-i l = record {
  read : l.self.read ≡ l.initial.self.read;
  filed : (posts : List FiledPost) → IsFiled depth l.initial.self posts
      → IsFiled depth l.self (posts ++ step_posts l.index (reverse (take l.i l.steps)));
}
