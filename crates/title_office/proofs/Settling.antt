-- Why an office can't be settled.
use Rattle.std.proofs.Common.{◌≡◌, List, sym, subst, reverse}
use Rattle.title_land.specs.Depth.{depth}
use Rattle.title_chain.specs.declared.record.Record.{Record}
use Rattle.title_trace.specs.{declared.call.Call.{Call}, Trace.{committed}, Due.{Setting, IsDue}}
use Rattle.title_settle.specs.{declared.outcome.{Outcome.{Outcome}, Unsettled.{Unsettled}}, Settling.{IsUneven}}
use Rattle.title_settle.specs.declared.outcome.Unsettled.TheVariants as unsettled
use Rattle.title_office.specs.Offices.{IsQuiet, IsUnsettled}

-- nobody being open, what is wrong with the outcomes is why
pub uneven : (setting : Setting) (trace : List Call) (records : List Record) (outcomes : List Outcome) (why : Unsettled)
    → IsDue depth setting trace → IsQuiet trace → reverse (committed trace) ≡ records → IsUneven records outcomes why
    → IsUnsettled setting outcomes why
uneven setting trace records outcomes unsettled.Memory due quiet is wrong = tt
uneven setting trace records outcomes (unsettled.Open e) due quiet is wrong = absurd wrong
uneven setting trace records outcomes (unsettled.Unknown place) due quiet is wrong =
    (trace, due, quiet, subst (λ l. IsUneven l outcomes (unsettled.Unknown place)) (sym is) wrong)
uneven setting trace records outcomes (unsettled.Missing place) due quiet is wrong =
    (trace, due, quiet, subst (λ l. IsUneven l outcomes (unsettled.Missing place)) (sym is) wrong)
uneven setting trace records outcomes (unsettled.Doubled place) due quiet is wrong =
    (trace, due, quiet, subst (λ l. IsUneven l outcomes (unsettled.Doubled place)) (sym is) wrong)
uneven setting trace records outcomes (unsettled.Different place) due quiet is wrong =
    (trace, due, quiet, subst (λ l. IsUneven l outcomes (unsettled.Different place)) (sym is) wrong)
