-- A pull and the answers to its lines, the end, and each fault.
use Rattle.std.proofs.Common.{◌≡◌, ◌∙◌, ◌+◌, ℕ, [], ap, arith, inl, inr, length, length-take, map, refl, take}
use Rattle.std.proofs.lemmas.Result.{err_from_is_err_and}
use Rattle.title_counter.specs.{Lines.{last_line, lines_from}, Views.{counter_of}}
use Rattle.title_kept_desk.specs.LookLines.{as_look}
use Rattle.title_kept_desk.proofs.LookSittings.{looked, looks_begin, waits, answered_all, at_once, batch_cause, batch_stopped, beyond}
use Rattle.title_kept_desk.proofs.LookSittings.{end_cause, end_stopped, given_kept}
use Rattle.title_kept_desk.proofs.look_desk.look_rows.Goals as goal

pub pulls-init : goal.pulls-init
pulls-init g c =
    let none : length {A = ℕ} [] ≡ 0 = refl in
    record {
      between = looks_begin (counter_of c.args.clerk.now) (g.R.Source.left c.args.source.now) (g.W.Sink.taken c.args.sink.now)
          c.new-line.result.items 0 c.new-line.ensures.items refl;
      sound = c.is_sound.ensures.sound;
      rows = omega (arith, none, ap length c.new-line.ensures.items, c.requires.none);
      source_works = c.requires.source_works;
      sink_works = c.requires.sink_works;
    }

pub returns-in-Err : goal.returns-in-Err
returns-in-Err g c =
    let inv = c.pulls.invariant in
    record {
      looks = record {
        answers = tt;
        all = tt;
        stopped = at_once inv.between inv.sound (given_kept inv.between (g.R.Source.left c.pull.new.self) c.in-Err.ensures.bytes);
        why = inl c.in-Err.ensures.failed;
      };
    }

pub end_looks-requires-clause-start : goal.end_looks-requires-clause-start
end_looks-requires-clause-start g c = waits c.pulls.invariant.between

pub returns-in_err-end_looks : goal.returns-in_err-end_looks
returns-in_err-end_looks g c =
    let inv = c.pulls.invariant in
    let consumed = rw c.if-count-eq0.true at c.in-Ok.ensures.bytes.0 in
    let out = err_from_is_err_and c.from_residual.result c.from_residual.ensures.1 in
    let failed = g.W.Sink.has_failed c.end_looks.new.sink in
    rw (out.1, out.2) (record {
      looks = record {
        answers = tt;
        all = tt;
        stopped = end_stopped inv.between (g.R.Source.left c.pull.new.self) (g.W.Sink.taken c.end_looks.new.sink) failed inv.sound
            consumed c.in_err-end_looks.field-0.0 c.in_err-end_looks.ensures.ended;
        why = end_cause (counter_of c.pulls.clerk) (map as_look (last_line c.pulls.line.items)) (g.R.Source.left c.args.source.now)
            (g.W.Sink.taken c.pulls.sink) (g.W.Sink.taken c.end_looks.new.sink) (g.R.Source.has_failed c.pull.new.self) failed
            c.in_err-end_looks.field-0.0 c.in_err-end_looks.ensures.ended;
      };
    })

pub returns-then-count-eq0 : goal.returns-then-count-eq0
returns-then-count-eq0 g c =
    let inv = c.pulls.invariant in
    let consumed = rw c.if-count-eq0.true at c.in-Ok.ensures.bytes.0 in
    record {
      looks = record {
        answers = answered_all inv.between consumed c.in_ok-end_looks.ensures.ended;
        all = c.in-Ok.ensures.bytes.1 c.if-count-eq0.true (omega arith);
        stopped = tt;
        why = tt;
      };
    }

pub look_batch-requires-clause-start : goal.look_batch-requires-clause-start
look_batch-requires-clause-start g c = waits c.pulls.invariant.between

pub returns-in_err-look_batch : goal.returns-in_err-look_batch
returns-in_err-look_batch g c =
    let inv = c.pulls.invariant in
    let bytes = take c.in-Ok.count c.pull.new.buf in
    let out = err_from_is_err_and c.from_residual-in_err-look_batch.result c.from_residual-in_err-look_batch.ensures.1 in
    let failed = g.W.Sink.has_failed c.look_batch.new.sink in
    rw (out.1, out.2) (record {
      looks = record {
        answers = tt;
        all = tt;
        stopped = batch_stopped inv.between (g.R.Source.left c.pull.new.self) (g.W.Sink.taken c.look_batch.new.sink) bytes
            (counter_of c.look_batch.new.clerk) failed inv.sound c.in-Ok.ensures.bytes.0 c.in_err-look_batch.field-0.0
            c.in_err-look_batch.ensures.batch;
        why = batch_cause (counter_of c.pulls.clerk) (counter_of c.look_batch.new.clerk)
            (map as_look (lines_from c.pulls.line.items bytes).whole) (g.R.Source.left c.args.source.now) (g.W.Sink.taken c.pulls.sink)
            (g.W.Sink.taken c.look_batch.new.sink) (g.R.Source.has_failed c.pull.new.self) failed c.in_err-look_batch.field-0.0
            c.in_err-look_batch.ensures.batch;
      };
    })

pub pulls-preserved : goal.pulls-preserved
pulls-preserved g c =
    let inv = c.pulls.invariant in
    let bytes = take c.in-Ok.count c.pull.new.buf in
    let e = c.in_ok-look_batch.ensures in
    record {
      between = looked inv.between bytes c.look_batch.new.line.items (counter_of c.look_batch.new.clerk) (c.pulls.given + c.in-Ok.count)
          c.in-Ok.ensures.bytes.0 e.batch.0 e.rest (omega (arith, length-take c.in-Ok.count c.pull.new.buf, c.in-Ok.ensures.bound));
      sound = e.batch.1;
      rows = omega (arith, e.rows, inv.rows, length-take c.in-Ok.count c.pull.new.buf, c.in-Ok.ensures.bound);
      source_works = c.in-Ok.ensures.failed ∙ inv.source_works;
      sink_works = e.batch.2;
    }

pub returns : goal.returns
returns g c =
    let inv = c.pulls.invariant in
    record {
      looks = record {
        answers = tt;
        all = tt;
        stopped = at_once inv.between inv.sound inv.between.consumed;
        why = inr (beyond inv.between (omega arith));
      };
    }
