-- The transactions of some examiners are aborted.
use Rattle.std.proofs.Common.{◌≡◌, ℕ, List, []}
use Rattle.title_counter.{specs.Closings.{with_aborts}, proofs.Aborting.{still_open}}
use Rattle.title_counter.proofs.closing.abort_all.Given as goal

abbrev pub invariant-loop-examiner : goal.invariant-loop-examiner
invariant-loop-examiner g l = record {
  setting : l.desk.setting ≡ l.fn.desk.setting;
  examiners : List ℕ;
  aborted : l.desk.trace ≡ with_aborts l.fn.desk.setting l.fn.desk.trace examiners;
  unasked : l.fn.desk.trace ≡ [] → l.desk.trace ≡ [];
}

abbrev pub decreases-loop-examiner : goal.decreases-loop-examiner
decreases-loop-examiner g l = still_open l.desk.trace l.desk.trace
