-- Where memory is wanted for the desk, nothing was given and nothing taken.
use Rattle.std.proofs.lemmas.Result.{err_from_is_err_and}
use Rattle.title_counter.specs.Laws.GivenBytes.{keeps_itself}
use Rattle.title_counter.proofs.session.attend.Goals as goal

pub returns-in_err-clerk : goal.returns-in_err-clerk
returns-in_err-clerk g c =
    let out = err_from_is_err_and c.from_residual.result c.from_residual.ensures.1 in
    rw (out.1, out.2) (record {
      attended = record {
        answers = tt;
        all = tt;
        leaves = (keeps_itself (g.R.Source.left c.args.source.now), keeps_itself (g.W.Sink.taken c.args.sink.now));
        why = tt;
      };
    })
