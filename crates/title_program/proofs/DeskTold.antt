-- The fault that is told of rows at a desk follows their answers.
use Rattle.std.proofs.Common.{◌≡◌, ◌≢◌, refl, List, ℕ, Bool, Option, Err}
use Rattle.title_counter.specs.declared.fault.CounterFault.{CounterFault}
use Rattle.title_counter.specs.declared.fault.CounterFault.TheVariants as fault
use Rattle.title_program.specs.{declared.status.Status.{Status, TheVariants.{Failure}}, DeskServing.{ClosesBy}, Faults.{of_desk}}
use Rattle.title_program.specs.Printing.{TellsFault}

-- rows that weren't attended to their end are closed so
pub closes_by : (e : CounterFault) (before after : Option (List ℕ)) (then_failed sink_failed : Bool) (status : Status)
    → (e ≡ fault.Write → (after ≡ before) × (sink_failed ≡ then_failed))
    → (e ≢ fault.Write → TellsFault (of_desk e) before after sink_failed status) → status ≡ Failure
    → ClosesBy {T = Unit {0}} (Err e) before after then_failed sink_failed status
closes_by fault.Read before after then_failed sink_failed status cut told fails = told (λ h. cc)
closes_by fault.Write before after then_failed sink_failed status cut told fails = ((cut refl).0, (cut refl).1, fails)
closes_by fault.Memory before after then_failed sink_failed status cut told fails = told (λ h. cc)
