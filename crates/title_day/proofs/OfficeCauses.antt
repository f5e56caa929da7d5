-- Why there is no report of an office's script.
use Rattle.std.{proofs.Common.{◌≡◌, ◌⊎◌, inl, inr, ℕ, List, Result, Ok, Err, IfErr, sym, ap, subst}, specs.Result.{IsErrAnd}}
use Rattle.title_plan.specs.{declared.fault.ScriptFault.{ScriptFault}, Plans.{script_of}}
use Rattle.title_plan.specs.declared.fault.ScriptFault.TheVariants as script_fault
use Rattle.title_plan.specs.declared.line.Schedule.TheVariants as schedule
use Rattle.title_day.specs.{declared.office_fault.OfficeFault.{OfficeFault}, OfficeRuns.{IsOwnCause}}
use Rattle.title_day.specs.declared.office_fault.OfficeFault.TheVariants as office
use Rattle.title_script.specs.{Faults.{of_script}, Reports.{report_of, report_or_fault}}

-- the first fault of the script is one
pub script_is_own : (number : ℕ) (script : List ℕ) (e : ScriptFault) →
    (e ≡ script_fault.Memory) ⊎ (script_of (schedule.Office number) script ≡ Err e) →
    IsOwnCause number script (office.Run (of_script e))
unfolding report_of
script_is_own number script (script_fault.Row n) (inr is) = ap report_or_fault is
script_is_own number script (script_fault.Order n) (inr is) = ap report_or_fault is
script_is_own number script (script_fault.Party n) (inr is) = ap report_or_fault is
script_is_own number script (script_fault.Row n) (inl other) = absurd cc
script_is_own number script (script_fault.Order n) (inl other) = absurd cc
script_is_own number script (script_fault.Party n) (inl other) = absurd cc
script_is_own number script script_fault.Memory why = tt

-- the same of the fault that is made of it
pub fault_is_own : (number : ℕ) (script : List ℕ) (why : ScriptFault) (e : OfficeFault) → e ≡ office.Run (of_script why) →
    (why ≡ script_fault.Memory) ⊎ (script_of (schedule.Office number) script ≡ Err why) → IsOwnCause number script e
fault_is_own number script why e made is =
    subst (λ (f : OfficeFault). IsOwnCause number script f) (sym made) (script_is_own number script why is)

-- the same of a call that ends with it
pub residual_is_own : {T : Type 0} (number : ℕ) (script : List ℕ) (why : ScriptFault) (r : Result T OfficeFault) →
    IsErrAnd r (λ e. e ≡ office.Run (of_script why)) →
    (why ≡ script_fault.Memory) ⊎ (script_of (schedule.Office number) script ≡ Err why) → IfErr r (IsOwnCause number script)
residual_is_own number script why (Ok v) made is = tt
residual_is_own number script why (Err e) made is = fault_is_own number script why e made is
