-- One byte more.
use Rattle.std.proofs.Common.{refl}
use Rattle.title_counter.specs.Laws.LineLaws.{rest_to}
use Rattle.title_kept_desk.proofs.LookLines.{text_to}
use Rattle.title_kept_desk.proofs.look_lines.take_lines.Goals as goal

pub loop-byte-init : goal.loop-byte-init
loop-byte-init c = record { lines = c.new-lines.ensures.items; rest = refl }

pub loop-byte-preserved : goal.loop-byte-preserved
loop-byte-preserved c =
    let inv = c.loop-byte.invariant in
    let e = c.in_ok-take_byte.ensures in
    record {
      lines = text_to c.args.line.now.items c.args.bytes.now c.loop-byte.byte-index c.loop-byte-test.true c.loop-byte.line.items inv.rest
          c.loop-byte.lines.items c.take_byte.new.lines.items inv.lines e.put;
      rest = rest_to c.args.line.now.items c.args.bytes.now c.loop-byte.byte-index c.loop-byte-test.true c.loop-byte.line.items inv.rest
          c.take_byte.new.line.items e.rest;
    }
