-- What was told, and how it ends.
use Rattle.std.proofs.Common.{Result, ap, inr, refl, subst, sym}
use Rattle.title_lasting.specs.declared.checking.TellFault.{TellFault}
use Rattle.title_program.{specs.Checking.{ChecksBy}, proofs.KeptTold.{checks_by}}
use Rattle.title_program.proofs.checking.check.Goals as goal

pub returns-in-Ok-tell_bytes-clause-seen : goal.returns-in-Ok-tell_bytes-clause-seen
returns-in-Ok-tell_bytes-clause-seen g c =
    let told = c.tell_bytes.ensures.told in
    let taken = g.W.Sink.taken c.tell_bytes.new.sink in
    let failed = g.W.Sink.has_failed c.tell_bytes.new.sink in
    inr (record {
      file = c.in-Ok.bytes.items;
      shown = c.in-Ok.ensures.shown;
      written = taken;
      disk_failed = told.0;
      then_failed = failed;
      outcome = c.tell_bytes.result;
      telling = told.1;
      script = c.tell_bytes.ensures.script;
      told = subst (λ (o : Result (Unit {0}) TellFault). ChecksBy o taken taken failed failed c.success.result.status)
          (sym c.in-Ok-tell_bytes.is) (refl, refl, c.success.ensures.status);
    })

pub returns-in-Err-tell_bytes-clause-seen : goal.returns-in-Err-tell_bytes-clause-seen
returns-in-Err-tell_bytes-clause-seen g c =
    let told = c.tell_bytes.ensures.told in
    let written = g.W.Sink.taken c.tell_bytes.new.sink in
    let after = g.W.Sink.taken c.tell_untold.new.sink in
    let then_failed = g.W.Sink.has_failed c.tell_bytes.new.sink in
    let failed = g.W.Sink.has_failed c.tell_untold.new.sink in
    let ends = checks_by c.in-Err-tell_bytes.why written after then_failed failed c.tell_untold.result
    (λ is. (ap g.W.Sink.taken (c.tell_untold.ensures.cut is), ap g.W.Sink.has_failed (c.tell_untold.ensures.cut is)))
    c.tell_untold.ensures.told c.tell_untold.ensures.status in
    inr (record {
      file = c.in-Ok.bytes.items;
      shown = c.in-Ok.ensures.shown;
      written = written;
      disk_failed = told.0;
      then_failed = then_failed;
      outcome = c.tell_bytes.result;
      telling = told.1;
      script = c.tell_bytes.ensures.script;
      told = subst (λ (o : Result (Unit {0}) TellFault). ChecksBy o written after then_failed failed c.tell_untold.result)
          (sym c.in-Err-tell_bytes.is) ends;
    })
