-- No look is made, or its report isn't written, or it is.
use Rattle.std.proofs.lemmas.Result.{err_from_is_err_and}
use Rattle.title_daybook.specs.Books.{standing_of}
use Rattle.title_lasting.proofs.LookEnds.{look_cut, look_told, look_unmade}
use Rattle.title_lasting.proofs.looking.look_at.Goals as goal

pub returns-in_err-served : goal.returns-in_err-served
returns-in_err-served g c =
    let out = err_from_is_err_and c.from_residual.result c.from_residual.ensures.1 in
    record {
      look = rw (out.1, out.2) (look_unmade (standing_of c.args.stands) (g.R.Source.left c.args.source.now)
          (g.R.Source.left c.make_look.new.source) (g.R.Source.turns c.args.source.now) (g.R.Source.turns c.make_look.new.source)
          (g.W.Sink.taken c.args.sink.now) (g.R.Source.has_failed c.make_look.new.source) (g.W.Sink.has_failed c.args.sink.now)
          c.make_look.ensures.within c.in_err-served.field-0.0 c.in_err-served.ensures.why);
    }

pub returns-in_err-write_served : goal.returns-in_err-write_served
returns-in_err-write_served g c =
    let out = err_from_is_err_and c.from_residual-in_err-write_served.result c.from_residual-in_err-write_served.ensures.1 in
    record {
      look = rw (out.1, out.2) (look_cut (standing_of c.args.stands) (g.R.Source.left c.args.source.now)
          (g.R.Source.left c.make_look.new.source) (g.R.Source.turns c.args.source.now) (g.R.Source.turns c.make_look.new.source)
          (g.W.Sink.taken c.args.sink.now) (g.R.Source.has_failed c.make_look.new.source) (g.W.Sink.has_failed c.write_served.new.sink)
          c.make_look.ensures.within c.in_ok-served.served c.in_ok-served.ensures.made (g.W.Sink.taken c.write_served.new.sink)
          c.in_err-write_served.ensures.write c.in_err-write_served.ensures.part);
    }

pub returns : goal.returns
returns g c = record {
  look = look_told (standing_of c.args.stands) (g.R.Source.left c.args.source.now) (g.R.Source.left c.make_look.new.source)
      (g.R.Source.turns c.args.source.now) (g.R.Source.turns c.make_look.new.source) (g.W.Sink.taken c.args.sink.now)
      (g.R.Source.has_failed c.make_look.new.source) (g.W.Sink.has_failed c.write_served.new.sink) c.make_look.ensures.within
      c.in_ok-served.served c.in_ok-served.ensures.made (g.W.Sink.taken c.write_served.new.sink) tt c.in_ok-served.ensures.all
      c.in_ok-write_served.ensures.bytes;
}
