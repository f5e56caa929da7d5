-- How a day of an office on a plant's file ends.
use Rattle.std.proofs.Common.{◌≡◌, ◌∙◌, ◌≢◌, ◌⊎◌, ℕ, List, Bool, true, Option, Some, None, IfSome, Ok, Err, inl, inr, ⊎_elim}
use Rattle.std.{proofs.Common.{refl, sym, ap, subst, length, arith}, specs.Io.KnownBytes.{Appends, IsAtEnd, Keeps}}
use Rattle.title_disk.specs.{Crashes.{LeavesOnly, Only}, Laws.Moments.{joined, weakened}}
use Rattle.title_journal.specs.{Blocks.{blocks_in}, Rest.{StandsAlike}, declared.fault.PutFault.{PutFault}}
use Rattle.title_journal.specs.declared.fault.PutFault.TheVariants as put
use Rattle.title_plan.specs.declared.fault.ScriptFault.{ScriptFault}
use Rattle.title_plan.specs.declared.line.Schedule.TheVariants as schedule
use Rattle.title_script.specs.Runs.{IsReadWithin}
use Rattle.title_daybook.specs.{Files.{IsPlant, standing_after, standing_in}, Standing.{Standing}}
use Rattle.title_day.specs.Closings.{closed_text}
use Rattle.title_lasting.specs.{Days.{declared_in}, Faults.{of_put}, Kept.{IsWithOrWithout, text_in, with_text}, Made.{IsAtFault}}
use Rattle.title_lasting.specs.{Lastings.{Begins, IsExpected, Refuses, Stays}, Opened.{IsUnopened, LeavesUnopened}, Openings.{StandsAs}}
use Rattle.title_lasting.specs.{declared.fault.LastingFault.{LastingFault}, Laws.Plants.{adds_stand, alike_stands}}
use Rattle.title_lasting.specs.declared.fault.LastingFault.TheVariants as fault
use Rattle.title_kept_office.specs.declared.fault.KeptOfficeFault.{KeptOfficeFault, TheVariants.{Kept, Worker, Unsettled}}
use Rattle.title_kept_office.specs.{declared.making.Made.{Made}, OfficeDays.{stands_after}}
use Rattle.title_kept_office.specs.OfficeDays.{CanServe, IsEither, IsOfficeMade, IsOfficeServed, IsOfficeUnmade, OfficeDay}
use Rattle.title_kept_office.specs.OfficeLastings.{CameToRest, CanServeOn, IsOfficeCause, LastingOffice, LeavesOffice, OfficeCounts}

keeps_itself : (known : Option (List ℕ)) → Keeps known known
keeps_itself None = tt
keeps_itself (Some bytes) = refl

-- an expected place is the one that is said to be the last
pub expected_is : (after : Option ℕ) (last n : ℕ) → last ≡ n → IfSome after (λ place. place ≡ last) → IfSome after (λ place. place ≡ n)
expected_is None last n is same = tt
expected_is (Some place) last n is same = same ∙ is

module _ {D : Type 0} (seen : D → List ℕ) (may_leave : D → List ℕ → Type 0) (has_failed : D → Bool) (moment : D → ℕ)
    (left_since : D → ℕ → List ℕ → Type 0) (number : ℕ) (after : Option ℕ) (old mid : D) (rest : CameToRest seen moment left_since old mid)
    (before : Standing) (plant : IsPlant (seen mid) before) (left left_after taken : Option (List ℕ)) (turns turns_after : ℕ)
    (source_failed sink_failed : Bool) where
  -- what stood in the file before its end was repaired
  plant_old : IsPlant (seen old) before
  plant_old = (sym (alike_stands (seen old) (seen mid) rest.alike) ∙ plant.0, plant.1)

  still : LeavesOnly moment left_since old mid (StandsAs (seen old))
  still = weakened moment left_since old mid (StandsAlike (seen old)) (StandsAs (seen old)) (alike_stands (seen old)) rest.leaves

  stays : Only (seen mid) (may_leave mid) → Stays (seen old) (seen mid) (may_leave mid) (LeavesOnly moment left_since old mid)
  stays durable = record { stands = alike_stands (seen old) (seen mid) rest.alike; durable = durable; any_moment = still }

  -- another place was expected
  pub office_unexpected : {T : Type 0} (last : ℕ) → Only (seen mid) (may_leave mid) → last ≡ length before.records
      → ((place : ℕ) × (after ≡ Some place) × (place ≢ last))
      → LastingOffice {T = T} number after (seen old) (seen mid) (may_leave mid) (LeavesOnly moment left_since old mid) left left turns
      turns taken taken (has_failed mid) source_failed sink_failed (Err (Kept (fault.After last)))
  office_unexpected last durable is other = record {
    counts = tt;
    stopped = (stays durable, keeps_itself taken);
    why = record { stood = before; plant = plant_old; last_is = is; expected = other.0; asked = other.1; other = other.2 };
    all = tt;
    within = omega arith;
  }

  module _ (expected : IsExpected after before) (within : IsReadWithin turns turns_after) where
    -- ---- no day is made

    refuses : (e : ScriptFault) → IsAtFault (schedule.Office number) (declared_in before) left e
        → Refuses (schedule.Office number) after (seen old) left e
    refuses e at = record {
      stood = before;
      plant = plant_old;
      expected = expected;
      script = at.script;
      read = at.read;
      first_fault = at.first_fault;
    }

    can_serve : CanServe number before left → CanServeOn number after (seen old) left
    can_serve can = record {
      stood = before;
      plant = plant_old;
      expected = expected;
      script = can.is_asked.script;
      read = can.is_asked.read;
      asked = can.asked;
      asks = can.is_asked.asks;
      joined = can.joined;
    }

    unmade_cause : (disk_failed : Bool) (e : KeptOfficeFault) → IsOfficeUnmade number before left source_failed e
        → IsOfficeCause number after (seen old) left disk_failed source_failed sink_failed e
    unmade_cause disk_failed (Kept (fault.NotAPlant row)) is = absurd is
    unmade_cause disk_failed (Kept fault.Disk) is = absurd is
    unmade_cause disk_failed (Kept fault.Unsure) is = absurd is
    unmade_cause disk_failed (Kept (fault.After last)) is = absurd is
    unmade_cause disk_failed (Kept (fault.Row n)) is = refuses _ is
    unmade_cause disk_failed (Kept (fault.Order n)) is = refuses _ is
    unmade_cause disk_failed (Kept (fault.Party n)) is = refuses _ is
    unmade_cause disk_failed (Kept fault.Read) is = is
    unmade_cause disk_failed (Kept (fault.Joins place)) is = record {
      stood = before;
      plant = plant_old;
      expected = expected;
      script = is.is_asked.script;
      read = is.is_asked.read;
      asked = is.asked;
      asks = is.is_asked.asks;
      refused = is.refused;
    }
    unmade_cause disk_failed (Kept fault.Memory) is = tt
    unmade_cause disk_failed (Kept fault.Write) is = absurd is
    unmade_cause disk_failed (Worker why) is = can_serve is
    unmade_cause disk_failed (Unsettled why) is = can_serve is

    unmade_leaves : (e : KeptOfficeFault) → IsOfficeUnmade number before left source_failed e → Only (seen mid) (may_leave mid)
        → LeavesOffice number after (seen old) (seen mid) (may_leave mid) (LeavesOnly moment left_since old mid) left taken taken e
    unmade_leaves (Kept (fault.NotAPlant row)) is durable = absurd is
    unmade_leaves (Kept fault.Disk) is durable = absurd is
    unmade_leaves (Kept fault.Unsure) is durable = absurd is
    unmade_leaves (Kept (fault.After last)) is durable = absurd is
    unmade_leaves (Kept (fault.Row n)) is durable = (stays durable, keeps_itself taken)
    unmade_leaves (Kept (fault.Order n)) is durable = (stays durable, keeps_itself taken)
    unmade_leaves (Kept (fault.Party n)) is durable = (stays durable, keeps_itself taken)
    unmade_leaves (Kept fault.Read) is durable = (stays durable, keeps_itself taken)
    unmade_leaves (Kept (fault.Joins place)) is durable = (stays durable, keeps_itself taken)
    unmade_leaves (Kept fault.Memory) is durable = (stays durable, keeps_itself taken)
    unmade_leaves (Kept fault.Write) is durable = absurd is
    unmade_leaves (Worker why) is durable = (stays durable, keeps_itself taken)
    unmade_leaves (Unsettled why) is durable = (stays durable, keeps_itself taken)

    pub office_unmade : {T : Type 0} (e : KeptOfficeFault) → IsOfficeUnmade number before left source_failed e
        → Only (seen mid) (may_leave mid)
        → LastingOffice {T = T} number after (seen old) (seen mid) (may_leave mid) (LeavesOnly moment left_since old mid) left left_after
        turns turns_after taken taken (has_failed mid) source_failed sink_failed (Err e)
    office_unmade e is durable = record {
      counts = tt;
      stopped = unmade_leaves e is durable;
      why = unmade_cause (has_failed mid) e is;
      all = tt;
      within = within;
    }

    -- ---- a day is made

    module _ (made : Made) (is : IsOfficeMade number before left made) (new : D) where
      abbrev day : OfficeDay
      day = record { before = before; asked = is.asked; tallies = is.tallies; records = is.records }

      served : IsOfficeServed number after (seen old) left day
      served = record {
        script = is.is_asked.script;
        read = is.is_asked.read;
        is_day = record { stood = plant_old; asks = is.is_asked.asks; joined = is.joined; is_day = is.is_day };
        expected = expected;
      }

      stands_then : (c : List ℕ) → blocks_in c ≡ with_text (text_in made.block) (blocks_in (seen mid)) → IsPlant c (stands_after day)
      stands_then c now = (
        ap standing_after now
            ∙ adds_stand (text_in made.block) before (stands_after day) is.is_new.adds (blocks_in (seen mid)) plant.0,
        is.serial,
      )

      side : (c : List ℕ) → IsWithOrWithout (text_in made.block) (seen mid) c → IsEither day c
      side c here =
          ⊎_elim (λ (same : blocks_in c ≡ blocks_in (seen mid)). inl (ap standing_after same ∙ plant.0, plant.1))
          (λ (now : blocks_in c ≡ with_text (text_in made.block) (blocks_in (seen mid))). inr (stands_then c now)) here

      stood_there : (c : List ℕ) → StandsAlike (seen old) c → IsEither day c
      stood_there c same = inl (ap standing_after same ∙ plant_old.0, plant_old.1)

      -- what a crash leaves from the opening on
      either : LeavesOnly moment left_since mid new (IsWithOrWithout (text_in made.block) (seen mid))
          → LeavesOnly moment left_since old new (IsEither day)
      either both =
          joined moment left_since old mid new (IsEither day)
          (weakened moment left_since old mid (StandsAlike (seen old)) (IsEither day) stood_there rest.leaves)
          (weakened moment left_since mid new (IsWithOrWithout (text_in made.block) (seen mid)) (IsEither day) side both)

      -- the disk failed at the block
      pub office_unput : {T : Type 0} (f : PutFault) → has_failed new ≡ true
          → LeavesOnly moment left_since mid new (IsWithOrWithout (text_in made.block) (seen mid))
          → (f ≡ put.Before → LeavesOnly moment left_since mid new (StandsAlike (seen mid)))
          → LastingOffice {T = T} number after (seen old) (seen new) (may_leave new) (LeavesOnly moment left_since old new) left left_after
          turns turns_after taken taken (has_failed new) source_failed sink_failed (Err (Kept (of_put f)))
      office_unput put.Before failed both same = record {
        counts = tt;
        stopped = (
          joined moment left_since old mid new (StandsAs (seen old)) still
              (weakened moment left_since mid new (StandsAlike (seen mid)) (StandsAs (seen old))
              (λ c alike. ap standing_after alike ∙ alike_stands (seen old) (seen mid) rest.alike) (same refl)),
          keeps_itself taken,
        );
        why = failed;
        all = tt;
        within = within;
      }
      office_unput put.Unsure failed both same = record {
        counts = tt;
        stopped = (record { day = day; served = served; any_moment = either both }, keeps_itself taken);
        why = failed;
        all = tt;
        within = within;
      }

      module _ (unchanged : text_in made.block ≡ None → seen new ≡ seen mid)
          (now : blocks_in (seen new) ≡ with_text (text_in made.block) (blocks_in (seen mid))) (durable : Only (seen new) (may_leave new))
          (both : LeavesOnly moment left_since mid new (IsWithOrWithout (text_in made.block) (seen mid)))
          (taken_after : Option (List ℕ)) where
        counts_as : (Told : List ℕ → Type 0) → Told (closed_text made.closing)
            → OfficeCounts number after (seen old) (seen new) (may_leave new) (LeavesOnly moment left_since old new) left Told
        counts_as Told told = record {
          day = day;
          served = served;
          stands = stands_then (seen new) now;
          durable = durable;
          any_moment = either both;
          quiet = λ rests same. unchanged (is.is_new.quiet same) ∙ rest.resting rests;
          report = subst Told is.report told;
        }

        -- the report was written
        pub office_told : {T : Type 0} (value : T) → IsAtEnd left_after → Appends taken taken_after (closed_text made.closing)
            → LastingOffice {T = T} number after (seen old) (seen new) (may_leave new) (LeavesOnly moment left_since old new) left
            left_after turns turns_after taken taken_after (has_failed new) source_failed sink_failed (Ok value)
        office_told value all told = record {
          counts = counts_as (Appends taken taken_after) told;
          stopped = tt;
          why = tt;
          all = all;
          within = within;
        }

        -- a beginning of it was
        pub office_untold : {T : Type 0} → sink_failed ≡ true → Begins taken taken_after (closed_text made.closing)
            → LastingOffice {T = T} number after (seen old) (seen new) (may_leave new) (LeavesOnly moment left_since old new) left
            left_after turns turns_after taken taken_after (has_failed new) source_failed sink_failed (Err (Kept fault.Write))
        office_untold failed begun = record {
          counts = tt;
          stopped = counts_as (Begins taken taken_after) begun;
          why = failed;
          all = tt;
          within = within;
        }

-- ---- the file isn't opened

module _ {D : Type 0} (seen : D → List ℕ) (may_leave : D → List ℕ → Type 0) (moment : D → ℕ) (left_since : D → ℕ → List ℕ → Type 0)
    (number : ℕ) (after : Option ℕ) (old new : D) (leaves : LeavesOnly moment left_since old new (StandsAlike (seen old)))
    (left taken : Option (List ℕ)) (turns : ℕ) (disk_failed source_failed sink_failed : Bool) where
  same_left : LeavesOnly moment left_since old new (StandsAs (seen old))
  same_left = weakened moment left_since old new (StandsAlike (seen old)) (StandsAs (seen old)) (alike_stands (seen old)) leaves

  file_stays : (seen new ≡ seen old) × Only (seen old) (may_leave new)
      → Stays (seen old) (seen new) (may_leave new) (LeavesOnly moment left_since old new)
  file_stays same = record {
    stands = ap standing_in same.0;
    durable = subst (λ (file : List ℕ). Only file (may_leave new)) (sym same.0) same.1;
    any_moment = same_left;
  }

  pub office_unopened : {T : Type 0} (e : LastingFault) → IsUnopened (seen old) disk_failed e
      → LeavesUnopened (seen old) (seen new) (may_leave new) e
      → LastingOffice {T = T} number after (seen old) (seen new) (may_leave new) (LeavesOnly moment left_since old new) left left turns
      turns taken taken disk_failed source_failed sink_failed (Err (Kept e))
  office_unopened (fault.NotAPlant row) is same = record {
    counts = tt;
    stopped = (file_stays same, same.0, keeps_itself taken);
    why = is;
    all = tt;
    within = omega arith;
  }
  office_unopened fault.Disk is same = record {
    counts = tt;
    stopped = (same_left, keeps_itself taken);
    why = is;
    all = tt;
    within = omega arith;
  }
  office_unopened fault.Memory is same = record {
    counts = tt;
    stopped = (file_stays same, keeps_itself taken);
    why = tt;
    all = tt;
    within = omega arith;
  }
  office_unopened fault.Unsure is same = absurd is
  office_unopened (fault.After last) is same = absurd is
  office_unopened (fault.Row n) is same = absurd is
  office_unopened (fault.Order n) is same = absurd is
  office_unopened (fault.Party n) is same = absurd is
  office_unopened fault.Read is same = absurd is
  office_unopened (fault.Joins place) is same = absurd is
  office_unopened fault.Write is same = absurd is
