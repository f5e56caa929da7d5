-- The ways in which a run on a file that was opened ends.
use Rattle.std.proofs.Common.{◌≡◌, ◌∙◌, ℕ, List, Bool, true, Option, None, Ok, Err, refl, ap, subst}
use Rattle.std.specs.Io.KnownBytes.{Appends, IsAtEnd}
use Rattle.title_disk.specs.Crashes.{Only}
use Rattle.title_journal.specs.{declared.fault.PutFault.{PutFault}, Blocks.{blocks_in}, Rest.{StandsAlike}}
use Rattle.title_journal.specs.declared.fault.PutFault.TheVariants as put
use Rattle.title_plan.specs.declared.line.Schedule.{Schedule}
use Rattle.title_script.specs.{Runs.{IsReadWithin}, Told.{served_text}}
use Rattle.title_daybook.specs.{Files.{IsPlant, standing_after}, Standing.{Standing}}
use Rattle.title_lasting.specs.{Days.{IsBeforeOrAfter}, Faults.{of_put}, Kept.{IsWithOrWithout, text_in, with_text}, Openings.{StandsAs}}
use Rattle.title_lasting.specs.{Lastings.{Begins, Counts, Lasting, Stays}, Made.{IsMade, IsUnmade}, declared.serving.Made.{Made}}
use Rattle.title_lasting.specs.declared.fault.LastingFault.{LastingFault}
use Rattle.title_lasting.proofs.Lasts.{at_any_moment, is_served, stands_then, unmade_cause, unmade_leaves}
use Rattle.title_lasting.specs.declared.fault.LastingFault.TheVariants as fault
use Rattle.title_lasting.proofs.Untold.{keeps_itself}

module _ (sched : Schedule) (file : List ℕ) (left left_after : Option (List ℕ)) (turns turns_after : ℕ)
    (taken : Option (List ℕ))
    (disk_failed source_failed sink_failed : Bool) (within : IsReadWithin turns turns_after) (before : Standing)
    (plant : IsPlant file before) (leaves : (List ℕ → Type 0) → Type 0)
    (weaker : (P Q : List ℕ → Type 0) → ((c : List ℕ) → P c → Q c) → leaves P → leaves Q) where
  -- no day was made, and nothing was written
  pub ends_unmade : {T : Type 0} (e : LastingFault) (may_leave : List ℕ → Type 0) → IsUnmade sched before left source_failed e
      → Only file may_leave → leaves (StandsAs file)
      → Lasting {T = T} sched None file file may_leave leaves left left_after turns turns_after taken taken disk_failed source_failed
      sink_failed (Err e)
  ends_unmade e may_leave is durable still =
      let stays : Stays file file may_leave leaves = record { stands = refl; durable = durable; any_moment = still } in record {
        counts = tt;
        stopped = unmade_leaves sched file left taken taken before plant may_leave leaves stays (keeps_itself taken) disk_failed
            source_failed sink_failed e is;
        why = unmade_cause sched file left taken taken before plant may_leave leaves stays (keeps_itself taken) disk_failed source_failed
            sink_failed e is;
        all = tt;
        within = within;
      }

  module _ (made : Made) (is : IsMade sched before left made) where
    -- what a crash leaves while the block is put
    sides : leaves (IsWithOrWithout (text_in made.block) file) → leaves (IsBeforeOrAfter is.day)
    sides h =
        weaker (IsWithOrWithout (text_in made.block) file) (IsBeforeOrAfter is.day) (at_any_moment sched file left before plant made is) h

    -- the disk failed at the block
    pub ends_unput : {T : Type 0} (f : PutFault) (file_after : List ℕ) (may_leave : List ℕ → Type 0) → disk_failed ≡ true
        → leaves (IsWithOrWithout (text_in made.block) file) → (f ≡ put.Before → leaves (StandsAlike file))
        → Lasting {T = T} sched None file file_after may_leave leaves left left_after turns turns_after taken taken disk_failed
        source_failed sink_failed (Err (of_put f))
    ends_unput put.Before file_after may_leave failed both still = record {
      counts = tt;
      stopped = (weaker (StandsAlike file) (StandsAs file) (λ c same. ap standing_after same) (still refl), keeps_itself taken);
      why = failed;
      all = tt;
      within = within;
    }
    ends_unput put.Unsure file_after may_leave failed both still = record {
      counts = tt;
      stopped = (
        record { day = is.day; served = is_served sched file left before plant made is; any_moment = sides both },
        keeps_itself taken,
      );
      why = failed;
      all = tt;
      within = within;
    }

    module _ (file_after : List ℕ) (may_leave : List ℕ → Type 0)
        (unchanged : text_in made.block ≡ None → file_after ≡ file)
        (now : blocks_in file_after ≡ with_text (text_in made.block) (blocks_in file)) (durable : Only file_after may_leave)
        (both : leaves (IsWithOrWithout (text_in made.block) file)) (taken_after : Option (List ℕ)) where
      counts_as : (Told : List ℕ → Type 0) → Told (served_text made.served)
          → Counts sched None file file_after may_leave leaves left Told
      counts_as Told told = record {
        day = is.day;
        served = is_served sched file left before plant made is;
        stands = stands_then sched file left before plant made is file_after now;
        durable = durable;
        any_moment = sides both;
        quiet = λ resting same. unchanged (is.is_new.quiet (same ∙ is.stood));
        report = subst Told is.report told;
      }

      -- the report was written
      pub ends_told : {T : Type 0} (value : T) → IsAtEnd left_after → Appends taken taken_after (served_text made.served)
          → Lasting {T = T} sched None file file_after may_leave leaves left left_after turns turns_after taken taken_after disk_failed
          source_failed sink_failed (Ok value)
      ends_told value all told = record {
        counts = counts_as (Appends taken taken_after) told;
        stopped = tt;
        why = tt;
        all = all;
        within = within;
      }

      -- a beginning of it was
      pub ends_untold : {T : Type 0} → sink_failed ≡ true → Begins taken taken_after (served_text made.served)
          → Lasting {T = T} sched None file file_after may_leave leaves left left_after turns turns_after taken taken_after disk_failed
          source_failed sink_failed (Err fault.Write)
      ends_untold failed begun = record {
        counts = tt;
        stopped = counts_as (Begins taken taken_after) begun;
        why = failed;
        all = tt;
        within = within;
      }
