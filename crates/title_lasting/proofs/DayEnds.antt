-- How a run on a plant's file ends: the file isn't opened, another place was expected, or a day was tried on it.
use Rattle.std.proofs.Common.{◌≡◌, ◌∙◌, ◌≢◌, ℕ, List, Bool, Option, Some, None, IfSome, Result, Ok, Err, sym, ap, subst, length, arith}
use Rattle.title_disk.specs.{Crashes.{LeavesOnly, Only}, Laws.Moments.{joined, weakened}}
use Rattle.title_journal.specs.Rest.{IsAtRest, StandsAlike}
use Rattle.title_plan.specs.declared.line.Schedule.{Schedule}
use Rattle.title_daybook.specs.{Files.{IsPlant, standing_in}, Standing.{Standing}}
use Rattle.title_lasting.specs.{declared.fault.LastingFault.{LastingFault}, Lastings.{IsCause, IsExpected, Lasting, Stays}}
use Rattle.title_lasting.specs.{Opened.{IsUnopened, LeavesUnopened}, Openings.{IsNoPlant, IsResting, StandsAs}}
use Rattle.title_lasting.specs.Laws.Plants.{alike_stands, plants_are_not_refused}
use Rattle.title_lasting.proofs.Lasts.{cause_there, counts_there, leaves_there}
use Rattle.title_lasting.specs.declared.fault.LastingFault.TheVariants as fault
use Rattle.title_lasting.proofs.Untold.{keeps_itself}

-- an expected place is the one that is said to be the last
pub expected_is : (after : Option ℕ) (last n : ℕ) → last ≡ n → IfSome after (λ place. place ≡ last) → IfSome after (λ place. place ≡ n)
expected_is None last n is same = tt
expected_is (Some place) last n is same = same ∙ is

-- at rest there is a closed gate behind the blocks
pub at_rest_rests : {D : Type 0} (seen : D → List ℕ) (may_leave : D → List ℕ → Type 0) (has_failed : D → Bool) (disk : D) (gate : ℕ)
    → IsAtRest seen may_leave has_failed disk gate → IsResting (seen disk)
at_rest_rests seen may_leave has_failed disk gate is = (is.blocks, is.stand, is.file)

module _ {D : Type 0} (seen : D → List ℕ) (may_leave : D → List ℕ → Type 0) (moment : D → ℕ) (left_since : D → ℕ → List ℕ → Type 0)
    (sched : Schedule) (after : Option ℕ) (left taken : Option (List ℕ)) (turns : ℕ) (old : D) where
  -- ---- the file isn't opened

  module _ (new : D) (disk_failed source_failed sink_failed : Bool)
      (leaves_alike : LeavesOnly moment left_since old new (StandsAlike (seen old))) where
    leaves_same : LeavesOnly moment left_since old new (StandsAs (seen old))
    leaves_same =
        weakened moment left_since old new (StandsAlike (seen old)) (StandsAs (seen old)) (alike_stands (seen old)) leaves_alike

    stays : (seen new ≡ seen old) × Only (seen old) (may_leave new)
        → Stays (seen old) (seen new) (may_leave new) (LeavesOnly moment left_since old new)
    stays same = record {
      stands = ap standing_in same.0;
      durable = subst (λ (file : List ℕ). Only file (may_leave new)) (sym same.0) same.1;
      any_moment = leaves_same;
    }

    pub unopened_ends : {T : Type 0} (e : LastingFault) → IsUnopened (seen old) disk_failed e
        → LeavesUnopened (seen old) (seen new) (may_leave new) e
        → Lasting {T = T} sched after (seen old) (seen new) (may_leave new) (LeavesOnly moment left_since old new) left left turns turns
        taken taken disk_failed source_failed sink_failed (Err e)
    unopened_ends (fault.NotAPlant row) is same = record {
      counts = tt;
      stopped = (stays same, same.0, keeps_itself taken);
      why = is;
      all = tt;
      within = omega arith;
    }
    unopened_ends fault.Disk is same = record {
      counts = tt;
      stopped = (leaves_same, keeps_itself taken);
      why = is;
      all = tt;
      within = omega arith;
    }
    unopened_ends fault.Memory is same = record {
      counts = tt;
      stopped = (stays same, keeps_itself taken);
      why = tt;
      all = tt;
      within = omega arith;
    }
    unopened_ends fault.Unsure is same = absurd is
    unopened_ends (fault.After last) is same = absurd is
    unopened_ends (fault.Row n) is same = absurd is
    unopened_ends (fault.Order n) is same = absurd is
    unopened_ends (fault.Party n) is same = absurd is
    unopened_ends fault.Read is same = absurd is
    unopened_ends (fault.Joins place) is same = absurd is
    unopened_ends fault.Write is same = absurd is

  -- ---- the file was opened

  module _ (mid : D) (stood : Standing) (serial : IsPlant (seen mid) stood) (alike : StandsAlike (seen old) (seen mid))
      (leaves_alike : LeavesOnly moment left_since old mid (StandsAlike (seen old))) where
    leaves_then : LeavesOnly moment left_since old mid (StandsAs (seen old))
    leaves_then =
        weakened moment left_since old mid (StandsAlike (seen old)) (StandsAs (seen old)) (alike_stands (seen old)) leaves_alike

    -- another place was expected
    pub unexpected_ends : {T : Type 0} (last : ℕ) → Only (seen mid) (may_leave mid) → last ≡ length stood.records
        → ((place : ℕ) × (after ≡ Some place) × (place ≢ last)) → (disk_failed source_failed sink_failed : Bool)
        → Lasting {T = T} sched after (seen old) (seen mid) (may_leave mid) (LeavesOnly moment left_since old mid) left left turns turns
        taken taken disk_failed source_failed sink_failed (Err (fault.After last))
    unexpected_ends last durable is other disk_failed source_failed sink_failed = record {
      counts = tt;
      stopped = (
        record { stands = alike_stands (seen old) (seen mid) alike; durable = durable; any_moment = leaves_then },
        keeps_itself taken,
      );
      why = record {
        stood = stood;
        plant = (sym (alike_stands (seen old) (seen mid) alike) ∙ serial.0, serial.1);
        last_is = is;
        expected = other.0;
        asked = other.1;
        other = other.2;
      };
      all = tt;
      within = omega arith;
    }

    module _ (new : D) (left_after taken_after : Option (List ℕ)) (turns_after : ℕ) (disk_failed source_failed sink_failed : Bool)
        (expected : IsExpected after stood) (rests : IsResting (seen mid)) (unrepaired : IsResting (seen old) → seen mid ≡ seen old) where
      longer : (P : List ℕ → Type 0) → ((c : List ℕ) → StandsAs (seen old) c → P c) → LeavesOnly moment left_since mid new P
          → LeavesOnly moment left_since old new P
      longer P more h =
          joined moment left_since old mid new P (weakened moment left_since old mid (StandsAs (seen old)) P more leaves_then) h

      no_refusal : (e : LastingFault) → IsCause sched None (seen mid) left disk_failed source_failed sink_failed e → (row : ℕ)
          → e ≡ fault.NotAPlant row → ⊥
      no_refusal e is row same =
          let none : IsNoPlant (seen mid) row =
          subst (IsCause sched None (seen mid) left disk_failed source_failed sink_failed) same is in
          plants_are_not_refused (seen mid) stood row serial none

      -- a day was tried on what stood there, and what it came to it comes to for the file before
      pub lasts_there : {T : Type 0} (result : Result T LastingFault)
          → Lasting {T = T} sched None (seen mid) (seen new) (may_leave new) (LeavesOnly moment left_since mid new) left left_after turns
          turns_after taken taken_after disk_failed source_failed sink_failed result
          → Lasting {T = T} sched after (seen old) (seen new) (may_leave new) (LeavesOnly moment left_since old new) left left_after turns
          turns_after taken taken_after disk_failed source_failed sink_failed result
      lasts_there (Ok value) h = record {
        counts = counts_there sched after (seen old) (seen mid) left taken taken_after stood serial
            (alike_stands (seen old) (seen mid) alike) expected (LeavesOnly moment left_since mid new)
            (LeavesOnly moment left_since old new) longer (weakened moment left_since mid new) rests unrepaired (seen new) (may_leave new)
            _ h.counts;
        stopped = tt;
        why = tt;
        all = h.all;
        within = h.within;
      }
      lasts_there (Err e) h = record {
        counts = tt;
        stopped = leaves_there sched after (seen old) (seen mid) left taken taken_after stood serial
            (alike_stands (seen old) (seen mid) alike) expected (LeavesOnly moment left_since mid new)
            (LeavesOnly moment left_since old new) longer (weakened moment left_since mid new) rests unrepaired (seen new) (may_leave new)
            e h.stopped (no_refusal e h.why);
        why = cause_there sched after (seen old) (seen mid) left taken taken_after stood serial
            (alike_stands (seen old) (seen mid) alike) expected (LeavesOnly moment left_since mid new)
            (LeavesOnly moment left_since old new) longer (weakened moment left_since mid new) rests unrepaired disk_failed source_failed
            sink_failed e h.why (no_refusal e h.why);
        all = tt;
        within = h.within;
      }
