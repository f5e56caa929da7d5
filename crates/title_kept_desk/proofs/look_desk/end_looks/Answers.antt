-- The last line isn't answered, or the last row isn't written; or all is written.
use Rattle.std.proofs.{Common.{map}, lemmas.Result.{err_from_is_err_and}}
use Rattle.title_counter.specs.{Lines.{last_line}, Views.{counter_of}}
use Rattle.title_kept_desk.specs.LookLines.{as_look}
use Rattle.title_kept_desk.proofs.LookSittings.{row_broken, row_written, unlooked}
use Rattle.title_kept_desk.proofs.look_desk.end_looks.Goals as goal

pub returns-in_err-look_rest : goal.returns-in_err-look_rest
returns-in_err-look_rest g c =
    let out = err_from_is_err_and c.from_residual.result c.from_residual.ensures.1 in
    record {
      ended = rw (out.1, out.2) (unlooked (counter_of c.args.clerk.now) (counter_of c.look_rest.new.clerk)
          (map as_look (last_line c.args.line.now.items)) (g.W.Sink.taken c.args.sink.now) (g.W.Sink.taken c.look_rest.new.sink)
          c.in_err-look_rest.field-0.0 (g.W.Sink.has_failed c.look_rest.new.sink) c.in_err-look_rest.ensures.batch);
    }

pub put_last-requires : goal.put_last-requires
put_last-requires g c = record { works = c.in_ok-look_rest.ensures.batch.2 }

pub returns-in_err-put_last : goal.returns-in_err-put_last
returns-in_err-put_last g c =
    let out = err_from_is_err_and c.from_residual-in_err-put_last.result c.from_residual-in_err-put_last.ensures.1 in
    record {
      ended = rw (out.1, out.2) (row_broken (counter_of c.args.clerk.now) (counter_of c.look_rest.new.clerk)
          (map as_look (last_line c.args.line.now.items)) (g.W.Sink.taken c.args.sink.now) (g.W.Sink.taken c.look_rest.new.sink)
          (g.W.Sink.taken c.put_last.new.sink) c.in_ok-look_rest.ensures.batch.0 c.in_ok-look_rest.ensures.batch.1
          (g.W.Sink.has_failed c.put_last.new.sink) (rw c.close.ensures.steps at c.in_err-put_last.ensures.begun)
          c.in_err-put_last.ensures.failed);
    }

pub returns : goal.returns
returns g c = record {
  ended = row_written (counter_of c.args.clerk.now) (counter_of c.look_rest.new.clerk) (map as_look (last_line c.args.line.now.items))
      (g.W.Sink.taken c.args.sink.now) (g.W.Sink.taken c.look_rest.new.sink) (g.W.Sink.taken c.put_last.new.sink)
      c.in_ok-look_rest.ensures.batch.0 c.in_ok-look_rest.ensures.batch.1
      (rw c.close.ensures.steps at c.in_ok-put_last.ensures.written) c.close.ensures.ends;
}
