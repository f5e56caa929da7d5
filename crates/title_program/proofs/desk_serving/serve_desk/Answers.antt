-- What was answered, and how it ends.
use Rattle.std.proofs.Common.{Result, ap, refl, subst, sym}
use Rattle.title_counter.specs.declared.fault.CounterFault.{CounterFault}
use Rattle.title_program.{specs.DeskServing.{ClosesBy}, proofs.DeskTold.{closes_by}}
use Rattle.title_program.proofs.desk_serving.serve_desk.Goals as goal

pub returns-in-Ok-clause-served : goal.returns-in-Ok-clause-served
returns-in-Ok-clause-served g c =
    let written = g.W.Sink.taken c.attend.new.sink in
    let failed = g.W.Sink.has_failed c.attend.new.sink in
    record {
      written = written;
      then_failed = failed;
      outcome = c.attend.result;
      attended = c.attend.ensures.attended;
      told = subst (λ (o : Result (Unit {0}) CounterFault). ClosesBy o written written failed failed c.success.result.status)
          (sym c.in-Ok.is) (refl, refl, c.success.ensures.status);
    }

pub returns-in-Err-clause-served : goal.returns-in-Err-clause-served
returns-in-Err-clause-served g c =
    let written = g.W.Sink.taken c.attend.new.sink in
    let after = g.W.Sink.taken c.tell_desk.new.sink in
    let then_failed = g.W.Sink.has_failed c.attend.new.sink in
    let failed = g.W.Sink.has_failed c.tell_desk.new.sink in
    let ends = closes_by c.in-Err.why written after then_failed failed c.tell_desk.result
    (λ is. (ap g.W.Sink.taken (c.tell_desk.ensures.cut is), ap g.W.Sink.has_failed (c.tell_desk.ensures.cut is)))
    c.tell_desk.ensures.told c.tell_desk.ensures.status in
    record {
      written = written;
      then_failed = then_failed;
      outcome = c.attend.result;
      attended = c.attend.ensures.attended;
      told = subst (λ (o : Result (Unit {0}) CounterFault). ClosesBy o written after then_failed failed c.tell_desk.result)
          (sym c.in-Err.is) ends;
    }
