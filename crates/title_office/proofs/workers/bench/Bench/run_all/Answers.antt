-- What came of one transaction more.
use Rattle.std.proofs.Common.{◌∙◌, refl, arith}
use Rattle.title_turns.specs.Dealt.{dealt_in}
use Rattle.title_office.proofs.Outcomes.{run_none, run_next, run_whole}
use Rattle.title_office.proofs.workers.bench.Bench.run_all.Goals as goal

pub loop-transaction-init : goal.loop-transaction-init
loop-transaction-init g c = record {
  seat = refl;
  left = omega (arith, c.requires.left);
  counted = c.requires.empty;
  run = run_none g.B.Room.setting c.args.seat.examiner c.args.tally.now.outcomes.items c.args.seat.seen
      (omega (arith, c.requires.empty, c.args.tally.now.outcomes.ok.0));
}

pub loop-transaction-preserved : goal.loop-transaction-preserved
loop-transaction-preserved g c = record {
  seat = c.in_ok-back.ensures.seat.0 ∙ c.loop-transaction.invariant.seat;
  left = omega (arith, c.count.ensures.left);
  counted = omega (arith, c.count.ensures.whole);
  run = run_next dealt_in g.B.Room.setting c.args.seat.examiner c.args.transactions.now c.loop-transaction.transaction-index
      c.transaction-item.result (
      record {
        outcomes = c.loop-transaction.tally.outcomes.items;
        aborted = c.loop-transaction.tally.aborted;
        given_up = c.loop-transaction.tally.given_up;
      }
      ) (
      record {
        outcomes = c.count.new.self.outcomes.items;
        aborted = c.count.new.self.aborted;
        given_up = c.count.new.self.given_up;
      }
      ) c.in_ok-back.came c.loop-transaction.seat c.in_ok-back.back (omega arith) c.transaction-item.is c.loop-transaction.invariant.seat
      c.in_ok-back.ensures.seat c.in_ok-back.ensures.came c.count.ensures.counted c.loop-transaction.invariant.run;
}

pub returns-in_err-back-clause-run : goal.returns-in_err-back-clause-run
returns-in_err-back-clause-run g c =
    run_whole dealt_in g.B.Room.setting c.args.seat.examiner c.args.transactions.now c.loop-transaction.transaction-index
    c.loop-transaction.tally.outcomes.items c.loop-transaction.seat.seen c.loop-transaction.invariant.run

pub returns-clause-run : goal.returns-clause-run
returns-clause-run g c =
    run_whole dealt_in g.B.Room.setting c.args.seat.examiner c.args.transactions.now c.loop-transaction.transaction-index
    c.loop-transaction.tally.outcomes.items c.loop-transaction.seat.seen c.loop-transaction.invariant.run
