-- What serving rows at a desk leaves.
use Rattle.std.specs.Prelude.{◌≡◌, List, ℕ, Bool, Option, Result, Ok, Err}
use Rattle.title_counter.specs.{Sessions.{IsAttended}, declared.fault.CounterFault.{CounterFault}}
use Rattle.title_counter.specs.declared.fault.CounterFault.TheVariants as fault
use Rattle.title_program.specs.{declared.status.Status.{Status, TheVariants.{Success, Failure}}, Faults.{of_desk}, Printing.{TellsFault}}

-- nothing follows the answers on the output, where all rows were attended to or the output has failed; else the fault is told by its line
-- behind them, or want of memory in its place
abbrev pub ClosesBy : {T : Type 0} → Result T CounterFault → (before after : Option (List ℕ)) → (then_failed sink_failed : Bool) → Status
    → Type 0
ClosesBy (Ok answer) before after then_failed sink_failed status = (after ≡ before) × (sink_failed ≡ then_failed) × (status ≡ Success)
ClosesBy (Err fault.Write) before after then_failed sink_failed status =
    (after ≡ before) × (sink_failed ≡ then_failed) × (status ≡ Failure)
ClosesBy (Err e) before after then_failed sink_failed status = TellsFault (of_desk e) before after sink_failed status

-- the rows of the source were attended to
pub record IsDeskServed (left left_after : Option (List ℕ)) (source_failed sink_failed : Bool) (before after : Option (List ℕ))
    (status : Status) : Type 0 where
  -- what the output had taken with the last answer, and whether it had failed
  pub written : Option (List ℕ)
  pub then_failed : Bool
  pub outcome : Result (Unit {0}) CounterFault
  pub attended : IsAttended left left_after source_failed before written then_failed outcome
  pub told : ClosesBy outcome written after then_failed sink_failed status
