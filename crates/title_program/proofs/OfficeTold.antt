-- The fault that is told of an office's run explains it, and follows what the run left.
use Rattle.std.proofs.Common.{◌≡◌, ◌≢◌, ◌⊎◌, inl, inr, refl, sym, subst, ℕ, List, Bool, Option, None, Some}
use Rattle.title_script.specs.declared.fault.RunFault.TheVariants as fault
use Rattle.title_script.specs.declared.fault.RunFault.TheVariants.{Row, Read, Write, Party, Order, Memory}
use Rattle.title_day.specs.declared.office_fault.OfficeFault.{OfficeFault, TheVariants.{Run, Worker, Unsettled}}
use Rattle.title_day.specs.OfficeRuns.{ExplainsOffice, LeavesOffice}
use Rattle.title_program.specs.{declared.status.Status.{Status, TheVariants.{Failure}}, Faults.{of_office}, Printing.{TellsFault}}
use Rattle.title_program.specs.OfficeServing.{IsOfficeServed, IsOfficeTold, write_fault}

-- a fault is the sink's or it isn't
pub is_write_or_not : (e : OfficeFault) → (e ≡ write_fault) ⊎ (e ≢ write_fault)
is_write_or_not (Run (Row n)) = inr (λ h. cc)
is_write_or_not (Run Read) = inr (λ h. cc)
is_write_or_not (Run Write) = inl refl
is_write_or_not (Run (Party n)) = inr (λ h. cc)
is_write_or_not (Run (Order n)) = inr (λ h. cc)
is_write_or_not (Run Memory) = inr (λ h. cc)
is_write_or_not (Worker why) = inr (λ h. cc)
is_write_or_not (Unsettled why) = inr (λ h. cc)

-- a fault that isn't the sink's explains a run whatever becomes of the sink
explains_later : (number : ℕ) (known : Option (List ℕ)) (source_failed before after : Bool) (e : OfficeFault) → e ≢ write_fault
    → ExplainsOffice number known source_failed before e → ExplainsOffice number known source_failed after e
explains_later number None source_failed before after e other h = tt
explains_later number (Some script) source_failed before after (Run (Row n)) other h = h
explains_later number (Some script) source_failed before after (Run Read) other h = h
explains_later number (Some script) source_failed before after (Run Write) other h = absurd (other refl)
explains_later number (Some script) source_failed before after (Run (Party n)) other h = h
explains_later number (Some script) source_failed before after (Run (Order n)) other h = h
explains_later number (Some script) source_failed before after (Run Memory) other h = h
explains_later number (Some script) source_failed before after (Worker why) other h = h
explains_later number (Some script) source_failed before after (Unsettled why) other h = h

-- want of memory may always be told
memory_explains : (number : ℕ) (known : Option (List ℕ)) (source_failed sink_failed : Bool)
    → ExplainsOffice number known source_failed sink_failed (Run fault.Memory)
memory_explains number None source_failed sink_failed = tt
memory_explains number (Some script) source_failed sink_failed = tt

-- a fault that isn't the sink's leaves as much as want of memory: nothing
leaves_as_memory : (number : ℕ) (known before left : Option (List ℕ)) (e : OfficeFault) → e ≢ write_fault
    → LeavesOffice number known before left e → LeavesOffice number known before left (Run fault.Memory)
leaves_as_memory number None before left e other h = tt
leaves_as_memory number (Some script) before left (Run (Row n)) other h = h
leaves_as_memory number (Some script) before left (Run Read) other h = h
leaves_as_memory number (Some script) before left (Run Write) other h = absurd (other refl)
leaves_as_memory number (Some script) before left (Run (Party n)) other h = h
leaves_as_memory number (Some script) before left (Run (Order n)) other h = h
leaves_as_memory number (Some script) before left (Run Memory) other h = h
leaves_as_memory number (Some script) before left (Worker why) other h = h
leaves_as_memory number (Some script) before left (Unsettled why) other h = h

-- a run's fault is told: itself, or want of memory in its place
is_told : (number : ℕ) (known before left after : Option (List ℕ)) (source_failed then_failed sink_failed : Bool) (e : OfficeFault)
    → e ≢ write_fault → ExplainsOffice number known source_failed then_failed e → LeavesOffice number known before left e
    → TellsFault (of_office e) left after sink_failed Failure → IsOfficeTold number known source_failed sink_failed before after
is_told number known before left after source_failed then_failed sink_failed e other why written tells = elim tells [
  | inl printed ↦ (e, left, other, explains_later number known source_failed then_failed sink_failed e other why, written, printed)
  | inr printed ↦ (
    Run fault.Memory,
    left,
    (λ (h : Run fault.Memory ≡ write_fault). cc),
    memory_explains number known source_failed sink_failed,
    leaves_as_memory number known before left e other written,
    printed,
  )
]

-- a failed run is served: cut off where its fault is the sink's, else told
pub failed_is_served : (number : ℕ) (known before left after : Option (List ℕ)) (source_failed then_failed sink_failed : Bool)
    (e : OfficeFault) (status : Status) → ExplainsOffice number known source_failed then_failed e
    → LeavesOffice number known before left e
    → (e ≡ write_fault → (after ≡ left) × (sink_failed ≡ then_failed))
    → (e ≢ write_fault → TellsFault (of_office e) left after sink_failed status) → status ≡ Failure
    → IsOfficeServed number known source_failed sink_failed before after status
failed_is_served number known before left after source_failed then_failed sink_failed e status why written cut told fails =
    subst (λ (s : Status). IsOfficeServed number known source_failed sink_failed before after s) (sym fails) (elim (is_write_or_not e) [
      | inl is ↦ inl (
        subst (λ (b : Bool). ExplainsOffice number known source_failed b write_fault) (sym ((cut is).1))
            (subst (λ (f : OfficeFault). ExplainsOffice number known source_failed then_failed f) is why),
        subst (λ (o : Option (List ℕ)). LeavesOffice number known before o write_fault) (sym ((cut is).0))
            (subst (λ (f : OfficeFault). LeavesOffice number known before left f) is written),
      )
      | inr other ↦ inr (is_told number known before left after source_failed then_failed sink_failed e other why written
          (subst (λ (s : Status). TellsFault (of_office e) left after sink_failed s) fails (told other)))
    ])
