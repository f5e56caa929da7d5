-- Why no day is made of what stood.
use Rattle.std.{proofs.Common.{◌≡◌, ℕ, List, Bool, Option, Result, Ok, Err, IfErr, sym, subst}, specs.Result.{IsErrAnd}}
use Rattle.title_plan.specs.{declared.line.Schedule.{Schedule}, Asked.{Asked}}
use Rattle.title_daybook.specs.Standing.{Standing}
use Rattle.title_lasting.specs.{Days.{declared_in}, Made.{IsAsked, IsUnjoined, IsUnmade, IsUnread}}
use Rattle.title_lasting.specs.declared.fault.LastingFault.{LastingFault}
use Rattle.title_lasting.specs.declared.fault.LastingFault.TheVariants as fault

-- a call ends with the fault of another, so what is said of that one is said of its own
pub ended_by : {T : Type 0} (P : LastingFault → Type 0) (why : LastingFault) (r : Result T LastingFault) → IsErrAnd r (λ e. e ≡ why)
    → P why → IfErr r P
ended_by P why (Ok value) made is = tt
ended_by P why (Err e) made is = subst P (sym made) is

module _ (sched : Schedule) (before : Standing) (left : Option (List ℕ)) (source_failed : Bool) where
  -- where the script isn't read, no day is made
  pub unread_unmade : (e : LastingFault) → IsUnread sched (declared_in before) left source_failed e
      → IsUnmade sched before left source_failed e
  unread_unmade (fault.NotAPlant row) is = is
  unread_unmade fault.Disk is = is
  unread_unmade fault.Unsure is = is
  unread_unmade (fault.After last) is = is
  unread_unmade (fault.Row n) is = is
  unread_unmade (fault.Order n) is = is
  unread_unmade (fault.Party n) is = is
  unread_unmade fault.Read is = is
  unread_unmade (fault.Joins place) is = absurd is
  unread_unmade fault.Memory is = is
  unread_unmade fault.Write is = is

  -- nor where its townships can't join
  pub unjoined_unmade : (asked : Asked) → IsAsked sched (declared_in before) left asked → (e : LastingFault)
      → IsUnjoined asked.townships before.records e → IsUnmade sched before left source_failed e
  unjoined_unmade asked is_asked (fault.NotAPlant row) is = absurd is
  unjoined_unmade asked is_asked fault.Disk is = absurd is
  unjoined_unmade asked is_asked fault.Unsure is = absurd is
  unjoined_unmade asked is_asked (fault.After last) is = absurd is
  unjoined_unmade asked is_asked (fault.Row n) is = absurd is
  unjoined_unmade asked is_asked (fault.Order n) is = absurd is
  unjoined_unmade asked is_asked (fault.Party n) is = absurd is
  unjoined_unmade asked is_asked fault.Read is = absurd is
  unjoined_unmade asked is_asked (fault.Joins place) is = record { asked = asked; is_asked = is_asked; refused = is }
  unjoined_unmade asked is_asked fault.Memory is = tt
  unjoined_unmade asked is_asked fault.Write is = absurd is
