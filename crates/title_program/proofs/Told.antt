-- The fault that is told of a run explains it, and follows what the run left.
use Rattle.std.proofs.Common.{◌≡◌, ◌≢◌, ◌⊎◌, inl, inr, refl, sym, subst, ℕ, List, Bool, Option, None, Some}
use Rattle.title_plan.specs.declared.line.Schedule.{Schedule}
use Rattle.title_script.specs.declared.fault.RunFault.{RunFault, TheVariants.{Row, Read, Write, Party, Order, Memory}}
use Rattle.title_script.specs.Runs.{Explains, LeavesWritten}
use Rattle.title_script.specs.declared.fault.RunFault.TheVariants as fault
use Rattle.title_program.specs.{declared.status.Status.{Status, TheVariants.{Failure}}, Faults.{of_run}, Printing.{TellsFault}}
use Rattle.title_program.specs.Serving.{IsServed, IsTold}

-- a fault is the sink's or it isn't
pub is_write_or_not : (e : RunFault) → (e ≡ fault.Write) ⊎ (e ≢ fault.Write)
is_write_or_not (Row n) = inr (λ h. cc)
is_write_or_not Read = inr (λ h. cc)
is_write_or_not Write = inl refl
is_write_or_not (Party n) = inr (λ h. cc)
is_write_or_not (Order n) = inr (λ h. cc)
is_write_or_not Memory = inr (λ h. cc)

-- a fault that isn't the sink's explains a run whatever becomes of the sink
explains_later : (sched : Schedule) (known : Option (List ℕ)) (source_failed before after : Bool) (e : RunFault) → e ≢ fault.Write
    → Explains sched known source_failed before e → Explains sched known source_failed after e
explains_later sched None source_failed before after e other h = tt
explains_later sched (Some script) source_failed before after (Row n) other h = h
explains_later sched (Some script) source_failed before after Read other h = h
explains_later sched (Some script) source_failed before after Write other h = absurd (other refl)
explains_later sched (Some script) source_failed before after (Party n) other h = h
explains_later sched (Some script) source_failed before after (Order n) other h = h
explains_later sched (Some script) source_failed before after Memory other h = h

-- want of memory may always be told
memory_explains : (sched : Schedule) (known : Option (List ℕ)) (source_failed sink_failed : Bool)
    → Explains sched known source_failed sink_failed fault.Memory
memory_explains sched None source_failed sink_failed = tt
memory_explains sched (Some script) source_failed sink_failed = tt

-- a fault that isn't the sink's leaves as much as want of memory: nothing
leaves_as_memory : (sched : Schedule) (known before left : Option (List ℕ)) (e : RunFault) → e ≢ fault.Write
    → LeavesWritten sched known before left e → LeavesWritten sched known before left fault.Memory
leaves_as_memory sched None before left e other h = tt
leaves_as_memory sched (Some script) before left (Row n) other h = h
leaves_as_memory sched (Some script) before left Read other h = h
leaves_as_memory sched (Some script) before left Write other h = absurd (other refl)
leaves_as_memory sched (Some script) before left (Party n) other h = h
leaves_as_memory sched (Some script) before left (Order n) other h = h
leaves_as_memory sched (Some script) before left Memory other h = h

-- a run's fault is told: itself, or want of memory in its place
pub is_told : (sched : Schedule) (known before left after : Option (List ℕ)) (source_failed then_failed sink_failed : Bool) (e : RunFault)
    → e ≢ fault.Write → Explains sched known source_failed then_failed e → LeavesWritten sched known before left e
    → TellsFault (of_run e) left after sink_failed Failure → IsTold sched known source_failed sink_failed before after
is_told sched known before left after source_failed then_failed sink_failed e other why written tells = elim tells [
  | inl printed ↦ (e, left, other, explains_later sched known source_failed then_failed sink_failed e other why, written, printed)
  | inr printed ↦ (
    fault.Memory,
    left,
    (λ (h : fault.Memory ≡ fault.Write). cc),
    memory_explains sched known source_failed sink_failed,
    leaves_as_memory sched known before left e other written,
    printed,
  )
]

-- a failed run is served: cut off where its fault is the sink's, else told
pub failed_is_served : (sched : Schedule) (known before left after : Option (List ℕ)) (source_failed then_failed sink_failed : Bool)
    (e : RunFault) (status : Status) → Explains sched known source_failed then_failed e → LeavesWritten sched known before left e
    → (e ≡ fault.Write → (after ≡ left) × (sink_failed ≡ then_failed))
    → (e ≢ fault.Write → TellsFault (of_run e) left after sink_failed status) → status ≡ Failure
    → IsServed sched known source_failed sink_failed before after status
failed_is_served sched known before left after source_failed then_failed sink_failed e status why written cut told fails =
    subst (λ (s : Status). IsServed sched known source_failed sink_failed before after s) (sym fails) (elim (is_write_or_not e) [
      | inl is ↦ inl (
        subst (λ (b : Bool). Explains sched known source_failed b fault.Write) (sym ((cut is).1))
            (subst (λ (f : RunFault). Explains sched known source_failed then_failed f) is why),
        subst (λ (o : Option (List ℕ)). LeavesWritten sched known before o fault.Write) (sym ((cut is).0))
            (subst (λ (f : RunFault). LeavesWritten sched known before left f) is written),
      )
      | inr other ↦ inr (is_told sched known before left after source_failed then_failed sink_failed e other why written
          (subst (λ (s : Status). TellsFault (of_run e) left after sink_failed s) fails (told other)))
    ])
