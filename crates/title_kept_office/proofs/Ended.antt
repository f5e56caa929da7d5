-- A call that ends with the fault of another.
use Rattle.std.{proofs.Common.{◌≡◌, Result, Ok, Err, IfErr, sym, subst}, specs.Result.{IsErrAnd}}
use Rattle.title_script.specs.declared.fault.RunFault.TheVariants as run
use Rattle.title_day.specs.{declared.office_fault.OfficeFault.{OfficeFault}, OfficeDays.{IsOfficeTrouble}}
use Rattle.title_day.specs.declared.office_fault.OfficeFault.TheVariants as office
use Rattle.title_kept_office.specs.{declared.fault.KeptOfficeFault.{KeptOfficeFault}, Faults.{of_office}}
use Rattle.title_kept_office.specs.OfficeDays.{IsOwnTrouble}

pub ended_by : {T : Type 0} (P : KeptOfficeFault → Type 0) (why : KeptOfficeFault) (r : Result T KeptOfficeFault)
    → IsErrAnd r (λ e. e ≡ why) → P why → IfErr r P
ended_by P why (Ok value) made is = tt
ended_by P why (Err e) made is = subst P (sym made) is

-- the trouble of an office is its own
pub office_trouble : (e : OfficeFault) → IsOfficeTrouble e → IsOwnTrouble (of_office e)
office_trouble (office.Run (run.Row n)) is = absurd is
office_trouble (office.Run (run.Order n)) is = absurd is
office_trouble (office.Run (run.Party n)) is = absurd is
office_trouble (office.Run run.Read) is = absurd is
office_trouble (office.Run run.Write) is = absurd is
office_trouble (office.Run run.Memory) is = tt
office_trouble (office.Worker why) is = tt
office_trouble (office.Unsettled why) is = tt
