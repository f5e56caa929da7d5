-- A pull and its answers, the end, and each fault.
use Rattle.std.proofs.{Common.{◌+◌, ◌∙◌, ap, arith, inl, inr, length-take, refl, take}, lemmas.Result.{err_from_is_err_and}}
use Rattle.title_counter.specs.{Counters.{Counter}, Views.{counter_of}}
use Rattle.title_counter.proofs.Sittings.{at_limit, at_once, at_start, beyond, broken, ended_all, lost, pulled}
use Rattle.title_counter.proofs.session.attend_rows.Goals as goal

pub pulls-init : goal.pulls-init
pulls-init g c =
    let zero = ap (λ (x : Counter). x.rows) c.requires.opening in
    record {
      between = at_start (g.R.Source.left c.args.source.now) (g.W.Sink.taken c.args.sink.now) (counter_of c.args.clerk.now)
          c.new-line.result 0 c.requires.opening c.new-line.ensures.empty refl;
      page = c.new-page.ensures.empty;
      sound = c.is_sound.ensures.sound;
      rows = omega (arith, zero);
      source_works = c.requires.source_works;
      sink_works = c.requires.sink_works;
    }

pub returns-in-Err : goal.returns-in-Err
returns-in-Err g c =
    let inv = c.pulls.invariant in
    record {
      attended = record {
        answers = tt;
        all = tt;
        leaves = at_once inv.between inv.sound c.in-Err.ensures.bytes;
        why = inl c.in-Err.ensures.failed;
      };
    }

pub returns-in_err-end_session : goal.returns-in_err-end_session
returns-in_err-end_session g c =
    let inv = c.pulls.invariant in
    let consumed = rw c.if-count-eq0.true at c.in-Ok.ensures.bytes.0 in
    let out = err_from_is_err_and c.from_residual.result c.from_residual.ensures.1 in
    rw (out.1, out.2) (record {
      attended = record {
        answers = tt;
        all = tt;
        leaves = broken inv.between consumed c.in_err-end_session.ensures.broken;
        why = c.in_err-end_session.ensures.failed;
      };
    })

pub returns-then-count-eq0 : goal.returns-then-count-eq0
returns-then-count-eq0 g c =
    let inv = c.pulls.invariant in
    let consumed = rw c.if-count-eq0.true at c.in-Ok.ensures.bytes.0 in
    let end = c.in-Ok.ensures.bytes.1 c.if-count-eq0.true (omega arith) in
    record {
      attended = record {
        answers = ended_all (g.R.Source.left c.pull.new.self) inv.between consumed end c.in_ok-end_session.ensures.ended;
        all = end;
        leaves = tt;
        why = tt;
      };
    }

pub returns-in_err-answer_batch : goal.returns-in_err-answer_batch
returns-in_err-answer_batch g c =
    let inv = c.pulls.invariant in
    let out = err_from_is_err_and c.from_residual-in_err-answer_batch.result c.from_residual-in_err-answer_batch.ensures.1 in
    rw (out.1, out.2) (record {
      attended = record {
        answers = tt;
        all = tt;
        leaves = lost inv.between (take c.in-Ok.count c.pull.new.buf) (counter_of c.answer_batch.new.clerk) c.in-Ok.ensures.bytes.0
            c.in_err-answer_batch.ensures.lost c.answer_batch.ensures.sound;
        why = c.in_err-answer_batch.ensures.failed;
      };
    })

pub pulls-preserved : goal.pulls-preserved
pulls-preserved g c =
    let inv = c.pulls.invariant in
    let bytes = take c.in-Ok.count c.pull.new.buf in
    let e = c.in_ok-answer_batch.ensures in
    record {
      between = pulled inv.between bytes c.answer_batch.new.line (counter_of c.answer_batch.new.clerk) (c.pulls.given + c.in-Ok.count)
          c.in-Ok.ensures.bytes.0 e.answers e.rest (omega (arith, length-take c.in-Ok.count c.pull.new.buf, c.in-Ok.ensures.bound));
      page = e.passed;
      sound = c.answer_batch.ensures.sound;
      rows = omega (arith, c.answer_batch.ensures.rows, inv.rows, length-take c.in-Ok.count c.pull.new.buf, c.in-Ok.ensures.bound);
      source_works = c.in-Ok.ensures.failed ∙ inv.source_works;
      sink_works = e.well;
    }

pub returns : goal.returns
returns g c =
    let inv = c.pulls.invariant in
    record {
      attended = record {
        answers = tt;
        all = tt;
        leaves = at_limit inv.between inv.sound;
        why = inr (beyond inv.between (omega arith));
      };
    }
