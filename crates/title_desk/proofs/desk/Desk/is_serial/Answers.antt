-- The trace is due, so the committed transactions are serial.
use Rattle.std.proofs.Common.{◌∷◌, subst}
use Rattle.title_land.specs.Depth.{depth}
use Rattle.title_chain.specs.{Alone.{IsSerial}, Overlaps.{record_of}}
use Rattle.title_trace.specs.{Trace.{committed, open_steps}, Laws.Law.{committed_serial, open_last}}
use Rattle.title_desk.specs.Told.{Books}
use Rattle.title_desk.proofs.desk.Desk.is_serial.Goals as goal

pub returns : goal.returns
returns g c =
    let k = c.self.invariant in record {
      committed_records = subst (λ (b : Books). IsSerial depth b.setting.townships (committed b.trace)) c.self.view_is
          (committed_serial depth _ k.few _ k.due);
      open_last = λ e. subst (λ (b : Books). IsSerial depth b.setting.townships (record_of e (open_steps b.trace e) ∷ committed b.trace))
          c.self.view_is (open_last depth _ k.few _ e k.due);
    }
