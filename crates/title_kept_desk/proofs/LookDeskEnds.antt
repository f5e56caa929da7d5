-- How a desk that only looks ends: the file isn't read, or lines were answered as looks on top of what stood.
use Rattle.std.proofs.Common.{◌≡◌, ℕ, List, Bool, Option, Result, Ok, Err, inl, inr}
use Rattle.title_disk.specs.{Crashes.{Elapses, LeavesOnly}, Laws.Moments.{goes_on, started}}
use Rattle.title_daybook.specs.{Files.{IsPlant}, Standing.{Standing}}
use Rattle.title_lasting.specs.{declared.fault.LastingFault.{LastingFault}, Opened.{IsUnopened}}
use Rattle.title_kept_desk.specs.LookDesks.{IsLookDeskCause, IsLooksCause, LeavesLookDesk, LeavesLooks, LookingDesk, LooksFrom}
use Rattle.title_kept_desk.specs.Sittings.{opening_on}
use Rattle.title_lasting.specs.declared.fault.LastingFault.TheVariants as fault
use Rattle.title_counter.specs.Laws.GivenBytes.{keeps_itself}

module _ {D : Type 0} (seen : D → List ℕ) (may_leave : D → List ℕ → Type 0) (moment : D → ℕ) (left_since : D → ℕ → List ℕ → Type 0)
    (only_now : (disk : D) (c : List ℕ) → left_since disk (moment disk) c → may_leave disk c) (old new : D)
    (crash : (c : List ℕ) → may_leave new c → may_leave old c)
    (time : Elapses (moment old) (moment new) (left_since old) (left_since new) (may_leave new)) (same : seen new ≡ seen old)
    (left taken : Option (List ℕ)) (disk_failed source_failed sink_failed : Bool) where
  -- a crash leaves what it might have left before
  at_any_moment : LeavesOnly moment left_since old new (may_leave old)
  at_any_moment =
      goes_on moment left_since old old new (may_leave old) (may_leave new)
      (started moment left_since old (may_leave old) (λ c left. only_now old c left)) time crash

  -- the file isn't read
  pub desk_unread : {T : Type 0} (e : LastingFault) → IsUnopened (seen old) disk_failed e
      → LookingDesk {T = T} (seen old) (seen new) (may_leave old) (may_leave new) (LeavesOnly moment left_since old new) left left taken
      taken disk_failed source_failed sink_failed (Err e)
  desk_unread (fault.NotAPlant row) is = record {
    answers = tt;
    all = tt;
    stopped = (keeps_itself left, keeps_itself taken);
    why = is;
    untouched = same;
    now = crash;
    any_moment = at_any_moment;
  }
  desk_unread fault.Disk is = record {
    answers = tt;
    all = tt;
    stopped = (keeps_itself left, keeps_itself taken);
    why = is;
    untouched = same;
    now = crash;
    any_moment = at_any_moment;
  }
  desk_unread fault.Memory is = record {
    answers = tt;
    all = tt;
    stopped = inl (keeps_itself left, keeps_itself taken);
    why = tt;
    untouched = same;
    now = crash;
    any_moment = at_any_moment;
  }
  desk_unread fault.Unsure is = absurd is
  desk_unread (fault.After last) is = absurd is
  desk_unread (fault.Row n) is = absurd is
  desk_unread (fault.Order n) is = absurd is
  desk_unread (fault.Party n) is = absurd is
  desk_unread fault.Read is = absurd is
  desk_unread (fault.Joins place) is = absurd is
  desk_unread fault.Write is = absurd is

  -- it is read, and lines were answered
  module _ (stood : Standing) (plant : IsPlant (seen old) stood) (left_after taken_after : Option (List ℕ)) where
    leaves_on : (e : LastingFault) → LeavesLooks (opening_on stood) left left_after taken taken_after e
        → LeavesLookDesk (seen old) left left_after taken taken_after e
    leaves_on (fault.NotAPlant row) h = absurd h
    leaves_on fault.Disk h = absurd h
    leaves_on fault.Memory h = inr (stood, plant, h)
    leaves_on fault.Unsure h = absurd h
    leaves_on (fault.After last) h = absurd h
    leaves_on (fault.Row n) h = absurd h
    leaves_on (fault.Order n) h = absurd h
    leaves_on (fault.Party n) h = absurd h
    leaves_on fault.Read h = (stood, plant, h)
    leaves_on (fault.Joins place) h = absurd h
    leaves_on fault.Write h = (stood, plant, h)

    cause_on : (e : LastingFault) → IsLooksCause left source_failed sink_failed e
        → IsLookDeskCause (seen old) left disk_failed source_failed sink_failed e
    cause_on (fault.NotAPlant row) h = absurd h
    cause_on fault.Disk h = absurd h
    cause_on fault.Memory h = tt
    cause_on fault.Unsure h = absurd h
    cause_on (fault.After last) h = absurd h
    cause_on (fault.Row n) h = absurd h
    cause_on (fault.Order n) h = absurd h
    cause_on (fault.Party n) h = absurd h
    cause_on fault.Read h = h
    cause_on (fault.Joins place) h = absurd h
    cause_on fault.Write h = h

    pub desk_looks : {T : Type 0} (result : Result T LastingFault)
        → LooksFrom {T = T} (opening_on stood) left left_after taken taken_after source_failed sink_failed result
        → LookingDesk {T = T} (seen old) (seen new) (may_leave old) (may_leave new) (LeavesOnly moment left_since old new) left left_after
        taken taken_after disk_failed source_failed sink_failed result
    desk_looks (Ok value) h = record {
      answers = (stood, plant, h.answers);
      all = h.all;
      stopped = tt;
      why = tt;
      untouched = same;
      now = crash;
      any_moment = at_any_moment;
    }
    desk_looks (Err e) h = record {
      answers = tt;
      all = tt;
      stopped = leaves_on e h.stopped;
      why = cause_on e h.why;
      untouched = same;
      now = crash;
      any_moment = at_any_moment;
    }
