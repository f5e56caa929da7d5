-- How a look ends: the file isn't read, another place was expected, or there was a look at what stood.
use Rattle.std.proofs.Common.{◌≡◌, ◌≢◌, ℕ, List, Bool, true, Option, Some, Result, Ok, Err, inl, inr, ⊎_elim, subst, length, arith}
use Rattle.std.specs.Io.KnownBytes.{Appends, IsAtEnd}
use Rattle.title_disk.specs.{Crashes.{Elapses, LeavesOnly}, Laws.Moments.{goes_on, started}}
use Rattle.title_plan.specs.declared.fault.ScriptFault.{ScriptFault}
use Rattle.title_plan.specs.declared.fault.ScriptFault.TheVariants as script_fault
use Rattle.title_plan.specs.declared.line.Schedule.TheVariants as schedule
use Rattle.title_script.specs.{declared.told.Served.{Served}, Runs.{IsReadWithin}, Told.{served_text}}
use Rattle.title_daybook.specs.{Files.{IsPlant}, Standing.{Standing}}
use Rattle.title_lasting.specs.{Days.{declared_in}, Lastings.{Begins, IsExpected, Refuses}, Looks.{Looking, LooksAt, Sees, look_day}}
use Rattle.title_lasting.specs.Looks.{IsLookCause, IsLookMade, IsLookStop, IsLookTold, IsLookUnread, LeavesLook, LeavesStanding}
use Rattle.title_lasting.specs.{Made.{IsAtFault}, Opened.{IsUnopened}, declared.fault.LastingFault.{LastingFault}}
use Rattle.title_lasting.specs.declared.fault.LastingFault.TheVariants as fault
use Rattle.title_lasting.proofs.Untold.{keeps_itself}

-- ---- a look at what stood

module _ (before : Standing) (left left_after : Option (List ℕ)) (turns turns_after : ℕ) (taken : Option (List ℕ))
    (source_failed sink_failed : Bool) (within : IsReadWithin turns turns_after) where
  -- the script isn't read, and nothing is written
  pub look_unmade : {T : Type 0} (e : LastingFault) → IsLookUnread (declared_in before) left source_failed e
      → LooksAt {T = T} before left left_after turns turns_after taken taken source_failed sink_failed (Err e)
  look_unmade (fault.NotAPlant row) is = absurd is
  look_unmade fault.Disk is = absurd is
  look_unmade fault.Unsure is = absurd is
  look_unmade (fault.After last) is = absurd is
  look_unmade (fault.Row n) is = record { told = tt; stopped = keeps_itself taken; why = is; all = tt; within = within }
  look_unmade (fault.Order n) is = record { told = tt; stopped = keeps_itself taken; why = is; all = tt; within = within }
  look_unmade (fault.Party n) is = record { told = tt; stopped = keeps_itself taken; why = is; all = tt; within = within }
  look_unmade fault.Read is = record { told = tt; stopped = keeps_itself taken; why = is; all = tt; within = within }
  look_unmade (fault.Joins place) is = absurd is
  look_unmade fault.Memory is = record { told = tt; stopped = keeps_itself taken; why = tt; all = tt; within = within }
  look_unmade fault.Write is = absurd is

  module _ (served : Served) (made : IsLookMade before left served) (taken_after : Option (List ℕ)) where
    told_as : (Told : List ℕ → Type 0) → Told (served_text served) → IsLookTold before left Told
    told_as Told told = record { asked = made.0; look = made.1; report = subst Told made.2 told }

    -- a beginning of the report was written
    pub look_cut : {T : Type 0} → sink_failed ≡ true → Begins taken taken_after (served_text served)
        → LooksAt {T = T} before left left_after turns turns_after taken taken_after source_failed sink_failed (Err fault.Write)
    look_cut failed begun = record {
      told = tt;
      stopped = told_as (Begins taken taken_after) begun;
      why = failed;
      all = tt;
      within = within;
    }

    -- all of it was
    pub look_told : {T : Type 0} (value : T) → IsAtEnd left_after → Appends taken taken_after (served_text served)
        → LooksAt {T = T} before left left_after turns turns_after taken taken_after source_failed sink_failed (Ok value)
    look_told value all written = record {
      told = told_as (Appends taken taken_after) written;
      stopped = tt;
      why = tt;
      all = all;
      within = within;
    }

-- ---- a look at a file

module _ {D : Type 0} (seen : D → List ℕ) (may_leave : D → List ℕ → Type 0) (moment : D → ℕ) (left_since : D → ℕ → List ℕ → Type 0)
    (only_now : (disk : D) (c : List ℕ) → left_since disk (moment disk) c → may_leave disk c) (old new : D)
    (crash : (c : List ℕ) → may_leave new c → may_leave old c)
    (time : Elapses (moment old) (moment new) (left_since old) (left_since new) (may_leave new)) where
  -- while a file is read alone a crash leaves what it might have left before
  pub unwritten : LeavesOnly moment left_since old new (may_leave old)
  unwritten =
      goes_on moment left_since old old new (may_leave old) (may_leave new)
      (started moment left_since old (may_leave old) (λ c left. only_now old c left)) time crash

  module _ (same : seen new ≡ seen old) (after : Option ℕ) (left taken : Option (List ℕ)) (turns : ℕ)
      (disk_failed source_failed sink_failed : Bool) where
    -- the file isn't read
    pub look_unopened : {T : Type 0} (e : LastingFault) → IsUnopened (seen old) disk_failed e
        → Looking {T = T} after (seen old) (seen new) (may_leave old) (may_leave new) (LeavesOnly moment left_since old new) left left turns
        turns taken taken disk_failed source_failed sink_failed (Err e)
    look_unopened (fault.NotAPlant row) is = record {
      sees = tt;
      stopped = keeps_itself taken;
      why = is;
      untouched = same;
      now = crash;
      any_moment = unwritten;
      all = tt;
      within = omega arith;
    }
    look_unopened fault.Disk is = record {
      sees = tt;
      stopped = keeps_itself taken;
      why = is;
      untouched = same;
      now = crash;
      any_moment = unwritten;
      all = tt;
      within = omega arith;
    }
    look_unopened fault.Memory is = record {
      sees = tt;
      stopped = keeps_itself taken;
      why = tt;
      untouched = same;
      now = crash;
      any_moment = unwritten;
      all = tt;
      within = omega arith;
    }
    look_unopened fault.Unsure is = absurd is
    look_unopened (fault.After last) is = absurd is
    look_unopened (fault.Row n) is = absurd is
    look_unopened (fault.Order n) is = absurd is
    look_unopened (fault.Party n) is = absurd is
    look_unopened fault.Read is = absurd is
    look_unopened (fault.Joins place) is = absurd is
    look_unopened fault.Write is = absurd is

    module _ (stood : Standing) (plant : IsPlant (seen old) stood) where
      -- another place was expected
      pub look_unexpected : {T : Type 0} (last : ℕ) → last ≡ length stood.records
          → ((place : ℕ) × (after ≡ Some place) × (place ≢ last))
          → Looking {T = T} after (seen old) (seen new) (may_leave old) (may_leave new) (LeavesOnly moment left_since old new) left left
          turns turns taken taken disk_failed source_failed sink_failed (Err (fault.After last))
      look_unexpected last is other = record {
        sees = tt;
        stopped = keeps_itself taken;
        why = record {
          stood = stood;
          plant = plant;
          last_is = is;
          expected = other.0;
          asked = other.1;
          other = other.2;
        };
        untouched = same;
        now = crash;
        any_moment = unwritten;
        all = tt;
        within = omega arith;
      }

      module _ (expected : IsExpected after stood) (left_after taken_after : Option (List ℕ)) (turns_after : ℕ) where
        sees_then : (Told : List ℕ → Type 0) → IsLookTold stood left Told → Sees after (seen old) left Told
        sees_then Told h = record {
          day = look_day stood h.asked;
          served = record {
            script = h.look.is_asked.asks.script;
            read = h.look.is_asked.asks.read;
            is_day = record { stood = plant; asks = h.look.is_asked.asks.asks; joined = h.look.joined };
            expected = expected;
            goes_on = h.look.goes_on;
            headline = h.look.headline;
          };
          looks = h.look.is_asked.looks;
          report = h.report;
        }

        refuses : (e : ScriptFault) → IsAtFault schedule.Serial (declared_in stood) left e
            → Refuses schedule.Serial after (seen old) left e
        refuses e at = record {
          stood = stood;
          plant = plant;
          expected = expected;
          script = at.script;
          read = at.read;
          first_fault = at.first_fault;
        }

        leaves_then : (e : LastingFault) → LeavesStanding stood left taken taken_after e
            → LeavesLook after (seen old) left taken taken_after e
        leaves_then fault.Write h = sees_then (Begins taken taken_after) h
        leaves_then (fault.NotAPlant row) h = h
        leaves_then fault.Disk h = h
        leaves_then fault.Unsure h = h
        leaves_then (fault.After last) h = h
        leaves_then (fault.Row n) h = h
        leaves_then (fault.Order n) h = h
        leaves_then (fault.Party n) h = h
        leaves_then fault.Read h = h
        leaves_then (fault.Joins place) h = h
        leaves_then fault.Memory h = h

        cause_then : (e : LastingFault) → IsLookStop stood left source_failed sink_failed e
            → IsLookCause after (seen old) left disk_failed source_failed sink_failed e
        cause_then (fault.Row n) is =
            ⊎_elim (λ other. inl (record { stood = stood; plant = plant; expected = expected; other = other }))
            (λ at. inr (refuses (script_fault.Row n) at)) is
        cause_then (fault.Order n) is = refuses (script_fault.Order n) is
        cause_then (fault.Party n) is = refuses (script_fault.Party n) is
        cause_then fault.Read is = is
        cause_then fault.Memory is = tt
        cause_then fault.Write is = is
        cause_then (fault.NotAPlant row) is = absurd is
        cause_then fault.Disk is = absurd is
        cause_then fault.Unsure is = absurd is
        cause_then (fault.After last) is = absurd is
        cause_then (fault.Joins place) is = absurd is

        -- there was a look at what stood
        pub looks_then : {T : Type 0} (result : Result T LastingFault)
            → LooksAt {T = T} stood left left_after turns turns_after taken taken_after source_failed sink_failed result
            → Looking {T = T} after (seen old) (seen new) (may_leave old) (may_leave new) (LeavesOnly moment left_since old new) left
            left_after turns turns_after taken taken_after disk_failed source_failed sink_failed result
        looks_then (Ok value) h = record {
          sees = sees_then (Appends taken taken_after) h.told;
          stopped = tt;
          why = tt;
          untouched = same;
          now = crash;
          any_moment = unwritten;
          all = h.all;
          within = h.within;
        }
        looks_then (Err e) h = record {
          sees = tt;
          stopped = leaves_then e h.stopped;
          why = cause_then e h.why;
          untouched = same;
          now = crash;
          any_moment = unwritten;
          all = tt;
          within = h.within;
        }
