-- The fault that is told of a script on top of a plant's file, or of what stands in one, follows what was written.
use Rattle.std.proofs.Common.{◌≡◌, ◌≢◌, ◌∙◌, refl, ap, arith, List, [], ◌∷◌, ◌++◌, ℕ, Bool, Option, Err, codes, decimal, lit<}
use Rattle.std.proofs.lemmas.Fmt.{decimal_digit, decimal_step}
use Rattle.title_lasting.specs.declared.{checking.TellFault.{TellFault}, fault.LastingFault.{LastingFault}}
use Rattle.title_lasting.specs.declared.checking.TellFault.TheVariants as untold
use Rattle.title_lasting.specs.declared.fault.LastingFault.TheVariants as fault
use Rattle.title_program.specs.{declared.status.Status.{Status, TheVariants.{Failure}}, Checking.{ChecksBy}, Keeping.{EndsBy}}
use Rattle.title_program.specs.{Faults.{fault_line, of_lasting, of_telling}, Printing.{Prints, TellsFault}}

-- a run that was stopped ends so
pub ends_by : (e : LastingFault) (before after : Option (List ℕ)) (then_failed sink_failed : Bool) (status : Status)
    → (e ≡ fault.Write → (after ≡ before) × (sink_failed ≡ then_failed))
    → (e ≡ fault.Unsure → Prints (fault_line (of_lasting fault.Unsure)) Failure before after sink_failed status)
    → (e ≢ fault.Write → TellsFault (of_lasting e) before after sink_failed status) → status ≡ Failure
    → EndsBy {T = Unit {0}} (Err e) before after then_failed sink_failed status
ends_by (fault.Row n) before after then_failed sink_failed status cut unsure told fails = told (λ h. cc)
ends_by (fault.Order n) before after then_failed sink_failed status cut unsure told fails = told (λ h. cc)
ends_by (fault.Party n) before after then_failed sink_failed status cut unsure told fails = told (λ h. cc)
ends_by (fault.NotAPlant n) before after then_failed sink_failed status cut unsure told fails = told (λ h. cc)
ends_by (fault.Joins n) before after then_failed sink_failed status cut unsure told fails = told (λ h. cc)
ends_by (fault.After n) before after then_failed sink_failed status cut unsure told fails = told (λ h. cc)
ends_by fault.Read before after then_failed sink_failed status cut unsure told fails = told (λ h. cc)
ends_by fault.Disk before after then_failed sink_failed status cut unsure told fails = told (λ h. cc)
ends_by fault.Memory before after then_failed sink_failed status cut unsure told fails = told (λ h. cc)
ends_by fault.Unsure before after then_failed sink_failed status cut unsure told fails = unsure refl
ends_by fault.Write before after then_failed sink_failed status cut unsure told fails = ((cut refl).0, (cut refl).1, fails)

-- and so does a telling
pub checks_by : (e : TellFault) (before after : Option (List ℕ)) (then_failed sink_failed : Bool) (status : Status)
    → (e ≡ untold.Write → (after ≡ before) × (sink_failed ≡ then_failed))
    → (e ≢ untold.Write → TellsFault (of_telling e) before after sink_failed status) → status ≡ Failure
    → ChecksBy {T = Unit {0}} (Err e) before after then_failed sink_failed status
checks_by (untold.NotAPlant n) before after then_failed sink_failed status cut told fails = told (λ h. cc)
checks_by (untold.NoScript n) before after then_failed sink_failed status cut told fails = told (λ h. cc)
checks_by untold.Disk before after then_failed sink_failed status cut told fails = told (λ h. cc)
checks_by untold.Memory before after then_failed sink_failed status cut told fails = told (λ h. cc)
checks_by untold.Write before after then_failed sink_failed status cut told fails = ((cut refl).0, (cut refl).1, fails)

-- the line of a script that may count or not
pub unsure_line : fault_line (of_lasting fault.Unsure) ≡ codes "fault,40\n"
unsure_line =
    let forty : decimal 40 ≡ codes "40" =
    decimal_step 40 (omega arith) (omega arith) ∙ ap (λ (ds : List ℕ). ds ++ 48 ∷ []) (decimal_digit 4 (lit< tt)) in
    rw forty refl
