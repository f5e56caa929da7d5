-- The slip stays its examiner's, and its asks are what is served of the asks so far.
use Rattle.std.proofs.Common.{◌≡◌, take}
use Rattle.title_office.specs.{Transactions.{asks_of, served_asks}, Turns.{GoesOn}}
use Rattle.title_office.proofs.workers.bench.Bench.ask_all.Given as goal

abbrev pub invariant-loop-ask : goal.invariant-loop-ask
invariant-loop-ask g l = record {
  seat : GoesOn l.initial.slip l.slip;
  asked : asks_of l.slip.rec ≡ served_asks g.B.Room.setting (take l.ask-index l.asks);
}
