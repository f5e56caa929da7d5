-- The disk has the bytes.
use Rattle.std.{proofs.Common.{subst, ℕ, true, false}, specs.Global.{Vec}}
use Rattle.title_lasting.specs.Tells.{Telling}
use Rattle.title_program.specs.Checking.{telling_text}
use Rattle.title_program.proofs.checking.tell_bytes.Goals as goal

pub returns-then-as_script-clause-told : goal.returns-then-as_script-clause-told
returns-then-as_script-clause-told g c =
    let taken = g.W.Sink.taken c.args.sink.now in
    let after = g.W.Sink.taken c.tell_script.new.sink in
    let failed = c.tell_script.new.disk.failed in (
      failed,
      rw c.if-as_script.true (subst (λ (bytes : Vec ℕ). Telling bytes.items (telling_text true bytes.items) taken after failed
          (g.W.Sink.has_failed c.tell_script.new.sink) c.tell_script.result) c.new-disk.ensures.bytes c.tell_script.ensures.told),
    )

pub returns-clause-told : goal.returns-clause-told
returns-clause-told g c =
    let taken = g.W.Sink.taken c.args.sink.now in
    let after = g.W.Sink.taken c.tell_standing.new.sink in
    let failed = c.tell_standing.new.disk.failed in (
      failed,
      rw c.if-as_script.false (subst (λ (bytes : Vec ℕ). Telling bytes.items (telling_text false bytes.items) taken after failed
          (g.W.Sink.has_failed c.tell_standing.new.sink) c.tell_standing.result) c.new-disk.ensures.bytes c.tell_standing.ensures.told),
    )
