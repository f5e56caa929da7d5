-- The seat stays its examiner's, and each transaction so far is counted; the outcomes are those of transactions so far, at places that
-- the seat has seen.
use Rattle.std.proofs.Common.{◌≡◌, ◌+◌, length, map, take, vec_len}
use Rattle.title_turns.specs.Dealt.{dealt_in}
use Rattle.title_office.specs.Turns.{IsRunTo}
use Rattle.title_office.proofs.workers.bench.Bench.run_all.Given as goal

abbrev pub invariant-loop-transaction : goal.invariant-loop-transaction
invariant-loop-transaction g l = record {
  seat : l.seat.examiner ≡ l.initial.seat.examiner;
  left : l.tally.left + l.transaction-index ≡ length l.transactions;
  counted : vec_len l.tally.outcomes + l.tally.aborted + l.tally.given_up ≡ l.transaction-index;
  run : IsRunTo g.B.Room.setting l.initial.seat.examiner (map dealt_in (take l.transaction-index l.transactions)) l.tally.outcomes.items
      l.seat.seen;
}
