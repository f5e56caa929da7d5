-- One byte more.
use Rattle.std.proofs.Common.{arith, refl}
use Rattle.title_counter.{specs.Views.{counter_of}, proofs.{AnswerLaws.{got_byte, got_none, lost_byte}, OnResults.{on_err}}}
use Rattle.title_counter.proofs.lines.answer_bytes.Goals as goal
use Rattle.title_counter.specs.Laws.LineLaws.{rest_to}

pub loop-byte-init : goal.loop-byte-init
loop-byte-init g c = record {
  got = got_none (counter_of c.args.clerk.now) (g.S.Sink.taken c.args.sink.now) c.args.page.now;
  rest = refl;
  rows = omega arith;
  well = c.requires.works;
}

pub loop-byte-preserved : goal.loop-byte-preserved
loop-byte-preserved g c =
    let inv = c.loop-byte.invariant in
    let e = c.in_ok-answer_byte.ensures in
    record {
      got = got_byte (counter_of c.args.clerk.now) (counter_of c.loop-byte.clerk) (counter_of c.answer_byte.new.clerk) c.args.line.now
          c.args.bytes.now c.loop-byte.line c.loop-byte.byte-index c.loop-byte-test.true inv.rest inv.got e.answers;
      rest = rest_to c.args.line.now c.args.bytes.now c.loop-byte.byte-index c.loop-byte-test.true c.loop-byte.line inv.rest
          c.answer_byte.new.line c.answer_byte.ensures.rest;
      rows = omega (arith, c.answer_byte.ensures.rows, inv.rows);
      well = e.well;
    }

pub returns-in_err-answer_byte-clause-lost : goal.returns-in_err-answer_byte-clause-lost
returns-in_err-answer_byte-clause-lost g c =
    let inv = c.loop-byte.invariant in
    on_err c.from_residual.result
    (lost_byte (counter_of c.args.clerk.now) (counter_of c.loop-byte.clerk) (counter_of c.answer_byte.new.clerk) c.args.line.now
    c.args.bytes.now c.loop-byte.line c.loop-byte.byte-index c.loop-byte-test.true inv.rest inv.got c.in_err-answer_byte.ensures.lost)
