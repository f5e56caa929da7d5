-- How a desk on a plant's file begins and ends: the file isn't opened, or what a desk comes to on the file at rest it comes to for the file
-- before its end was repaired.
use Rattle.std.proofs.{Common.{◌≡◌, ◌∙◌, ◌==◌, ℕ, List, [], ◌∷◌, Bool, false, not, Option, Result, Ok, Err}, lemmas.Bool.{not-false}}
use Rattle.std.proofs.{Common.{arith, refl, sym, ap, subst, inl, inr, ⊎_elim, length, true}, lemmas.Bool.Decides.{nat_tests}}
use Rattle.title_chain.specs.declared.record.Record.{Record}
use Rattle.title_trace.specs.declared.call.Call.{Call}
use Rattle.title_disk.specs.{Crashes.{LeavesOnly, Only}, Laws.Moments.{joined, weakened}}
use Rattle.title_journal.specs.Rest.{StandsAlike}
use Rattle.title_standing.specs.{Standing.{replayed}, StandingLaws.{ReplayedAreCommitted}}
use Rattle.title_spelling.specs.Lands.{kept_land_in}
use Rattle.title_daybook.specs.{Files.{IsPlant, standing_after, standing_in}, Standing.{Standing}}
use Rattle.title_counter.specs.{Counters.{Counter}, Sessions.{Answers}, Laws.GivenBytes.{keeps_itself}}
use Rattle.title_lasting.specs.{declared.fault.LastingFault.{LastingFault}, Lastings.{Stays}, Opened.{IsUnopened, LeavesUnopened}}
use Rattle.title_lasting.specs.Openings.{IsNoPlant, StandsAs}
use Rattle.title_lasting.specs.Laws.{Plants.{alike_stands, plants_are_not_refused}, FineBooks.{stands_written}, FineRows.{LandsHaveCells}}
use Rattle.title_kept_desk.specs.Desks.{IsAnsweredOnto, IsAtOnceOnto, IsBegunOnto, IsDeskCause, IsServedOn, IsUnsureOnto, IsUntold}
use Rattle.title_kept_desk.specs.Desks.{LastingDesk, LeavesDesk}
use Rattle.title_kept_desk.specs.Sittings.{HasAt, HasPart, opening_on}
use Rattle.title_kept_desk.proofs.BatchMade.{opening_stands}
use Rattle.title_lasting.specs.declared.fault.LastingFault.TheVariants as fault

-- ---- the counter before the first row

none_stood : (records : List Record) → not (length records == 0) ≡ false → replayed records ≡ []
none_stood [] h = refl
none_stood (r ∷ records) h =
    let zero : (length (r ∷ records) == 0) ≡ true = not-false _ h in
    let none : length (r ∷ records) ≡ 0 = grind (arith, nat_tests) in
    absurd (omega arith)

-- where townships may join, nothing stood
pub unasked : (s : Standing) (shut : Bool) (trace : List Call) → shut ≡ not (length s.records == 0) → trace ≡ replayed s.records
    → shut ≡ false → trace ≡ []
unasked s shut trace is served joins = served ∙ none_stood s.records (sym is ∙ joins)

-- a counter onto what stood is the one before the first row
pub onto_opening : (s : Standing) (shut : Bool) (trace : List Call) → shut ≡ not (length s.records == 0) → trace ≡ replayed s.records
    → record { townships = s.townships; names = s.names; rows = 0; steps = 0; shut = shut; trace = trace } ≡ opening_on s
onto_opening s shut trace is served =
    ap (λ (b : Bool). record { townships = s.townships; names = s.names; rows = 0; steps = 0; shut = b; trace = trace }) is
    ∙ ap (λ (t : List Call).
    record { townships = s.townships; names = s.names; rows = 0; steps = 0; shut = not (length s.records == 0); trace = t }) served

-- it has what stood
pub opening_has : LandsHaveCells kept_land_in → ReplayedAreCommitted → (file : List ℕ) (s : Standing) → IsPlant file s
    → HasAt (opening_on s) file
opening_has cells recalled file s plant =
    subst (IsPlant file) (sym (opening_stands recalled s (stands_written cells file s plant.0))) plant

-- ---- the file

module _ {D : Type 0} (seen : D → List ℕ) (may_leave : D → List ℕ → Type 0) (moment : D → ℕ) (left_since : D → ℕ → List ℕ → Type 0)
    (old : D) (left taken : Option (List ℕ)) where
  -- it isn't opened
  module _ (new : D) (disk_failed source_failed sink_failed : Bool)
      (alike : LeavesOnly moment left_since old new (StandsAlike (seen old))) where
    same_left : LeavesOnly moment left_since old new (StandsAs (seen old))
    same_left = weakened moment left_since old new (StandsAlike (seen old)) (StandsAs (seen old)) (alike_stands (seen old)) alike

    file_stays : (seen new ≡ seen old) × Only (seen old) (may_leave new)
        → Stays (seen old) (seen new) (may_leave new) (LeavesOnly moment left_since old new)
    file_stays same = record {
      stands = ap standing_in same.0;
      durable = subst (λ (file : List ℕ). Only file (may_leave new)) (sym same.0) same.1;
      any_moment = same_left;
    }

    pub unopened_desk : {T : Type 0} (e : LastingFault) → IsUnopened (seen old) disk_failed e
        → LeavesUnopened (seen old) (seen new) (may_leave new) e
        → LastingDesk {T = T} (seen old) (seen new) (may_leave new) (LeavesOnly moment left_since old new) left left taken taken
        disk_failed source_failed sink_failed (Err e)
    unopened_desk (fault.NotAPlant row) is same = record {
      answers = tt;
      all = tt;
      stopped = (file_stays same, same.0, (keeps_itself left, keeps_itself taken));
      why = is;
    }
    unopened_desk fault.Disk is same = record {
      answers = tt;
      all = tt;
      stopped = inl (same_left, (keeps_itself left, keeps_itself taken));
      why = is;
    }
    unopened_desk fault.Memory is same = record {
      answers = tt;
      all = tt;
      stopped = inl (file_stays same, (keeps_itself left, keeps_itself taken));
      why = tt;
    }
    unopened_desk fault.Unsure is same = absurd is
    unopened_desk (fault.After last) is same = absurd is
    unopened_desk (fault.Row n) is same = absurd is
    unopened_desk (fault.Order n) is same = absurd is
    unopened_desk (fault.Party n) is same = absurd is
    unopened_desk fault.Read is same = absurd is
    unopened_desk (fault.Joins place) is same = absurd is
    unopened_desk fault.Write is same = absurd is

  -- it is opened, and then there was a desk
  module _ (cells : LandsHaveCells kept_land_in) (recalled : ReplayedAreCommitted) (mid new : D) (stood : Standing)
      (plant : IsPlant (seen mid) stood) (alike : StandsAlike (seen old) (seen mid))
      (leaves_alike : LeavesOnly moment left_since old mid (StandsAlike (seen old))) (left_after taken_after : Option (List ℕ)) where
    -- what stood in the one stood in the other
    plant_there : (s : Standing) → IsPlant (seen mid) s → IsPlant (seen old) s
    plant_there s is = (sym (alike_stands (seen old) (seen mid) alike) ∙ is.0, is.1)

    begins : (s : Standing) → IsPlant (seen mid) s → (lines : List (List ℕ)) (text : List ℕ) (after : Counter)
        → Answers (opening_on s) lines text after → (file : List ℕ) → StandsAlike (seen old) file
        → HasPart (opening_on s) lines text after file
    begins s is lines text after answers file same = record {
      first = [];
      more = lines;
      lines_are = refl;
      said = [];
      rest = text;
      text_is = refl;
      at = opening_on s;
      answers = (refl, refl);
      others = answers;
      plant = opening_has cells recalled file s (ap standing_after (same ∙ sym alike) ∙ is.0, is.1);
    }

    served_there : (s : Standing) → IsPlant (seen mid) s → (lines : List (List ℕ)) (text : List ℕ) (after : Counter)
        → IsServedOn s (LeavesOnly moment left_since mid new) lines text after
        → IsServedOn s (LeavesOnly moment left_since old new) lines text after
    served_there s is lines text after h = record {
      answers = h.answers;
      any_moment = joined moment left_since old mid new (HasPart (opening_on s) lines text after)
          (weakened moment left_since old mid (StandsAlike (seen old)) (HasPart (opening_on s) lines text after)
          (begins s is lines text after h.answers) leaves_alike) h.any_moment;
      sound = h.sound;
      goes_on = h.goes_on;
    }

    -- a crash left what stood, all the time
    stood_there : LeavesOnly moment left_since mid new (StandsAs (seen mid)) → LeavesOnly moment left_since old new (StandsAs (seen old))
    stood_there h =
        joined moment left_since old mid new (StandsAs (seen old))
        (weakened moment left_since old mid (StandsAlike (seen old)) (StandsAs (seen old)) (alike_stands (seen old)) leaves_alike)
        (weakened moment left_since mid new (StandsAs (seen mid)) (StandsAs (seen old))
        (λ file same. same ∙ alike_stands (seen old) (seen mid) alike) h)

    answered_there : IsAnsweredOnto (seen mid) (seen new) (may_leave new) (LeavesOnly moment left_since mid new) left left_after taken
        taken_after
        → IsAnsweredOnto (seen old) (seen new) (may_leave new) (LeavesOnly moment left_since old new) left left_after taken taken_after
    answered_there h = record {
      before = h.before;
      stood = plant_there h.before h.stood;
      given = h.given;
      consumed = h.consumed;
      text = h.text;
      after = h.after;
      served = served_there h.before h.stood _ h.text h.after h.served;
      written = h.written;
      stands = h.stands;
      durable = h.durable;
      ends = h.ends;
    }

    at_once_there : IsAtOnceOnto (seen mid) (seen new) (may_leave new) (LeavesOnly moment left_since mid new) left left_after taken
        taken_after
        → IsAtOnceOnto (seen old) (seen new) (may_leave new) (LeavesOnly moment left_since old new) left left_after taken taken_after
    at_once_there h = record {
      before = h.before;
      stood = plant_there h.before h.stood;
      given = h.given;
      consumed = h.consumed;
      text = h.text;
      after = h.after;
      served = served_there h.before h.stood _ h.text h.after h.served;
      written = h.written;
      stands = h.stands;
      durable = h.durable;
    }

    begun_there : IsBegunOnto (seen mid) (seen new) (may_leave new) (LeavesOnly moment left_since mid new) left left_after taken taken_after
        → IsBegunOnto (seen old) (seen new) (may_leave new) (LeavesOnly moment left_since old new) left left_after taken taken_after
    begun_there h = record {
      before = h.before;
      stood = plant_there h.before h.stood;
      given = h.given;
      consumed = h.consumed;
      lines = h.lines;
      lines_are = h.lines_are;
      text = h.text;
      after = h.after;
      served = served_there h.before h.stood h.lines h.text h.after h.served;
      all = h.all;
      all_is = h.all_is;
      count = h.count;
      written = h.written;
      stands = h.stands;
      durable = h.durable;
    }

    untold_there : IsUntold (seen mid) (seen new) (may_leave new) (LeavesOnly moment left_since mid new) left left_after taken taken_after
        → IsUntold (seen old) (seen new) (may_leave new) (LeavesOnly moment left_since old new) left left_after taken taken_after
    untold_there h = record {
      before = h.before;
      stood = plant_there h.before h.stood;
      given = h.given;
      consumed = h.consumed;
      first = h.first;
      more = h.more;
      lines_are = h.lines_are;
      text = h.text;
      after = h.after;
      served = served_there h.before h.stood h.first h.text h.after h.served;
      written = h.written;
      now = h.now;
    }

    unsure_there : IsUnsureOnto (seen mid) (seen new) (may_leave new) (LeavesOnly moment left_since mid new) left left_after taken
        taken_after
        → IsUnsureOnto (seen old) (seen new) (may_leave new) (LeavesOnly moment left_since old new) left left_after taken taken_after
    unsure_there h = record {
      before = h.before;
      stood = plant_there h.before h.stood;
      given = h.given;
      consumed = h.consumed;
      first = h.first;
      batch = h.batch;
      more = h.more;
      lines_are = h.lines_are;
      text = h.text;
      told = h.told;
      answers = h.answers;
      rest = h.rest;
      after = h.after;
      served = served_there h.before h.stood _ _ h.after h.served;
      written = h.written;
      now = h.now;
    }

    file_stays_there : Stays (seen mid) (seen new) (may_leave new) (LeavesOnly moment left_since mid new)
        → Stays (seen old) (seen new) (may_leave new) (LeavesOnly moment left_since old new)
    file_stays_there h = record {
      stands = h.stands ∙ alike_stands (seen old) (seen mid) alike;
      durable = h.durable;
      any_moment = stood_there h.any_moment;
    }

    leaves_there : (e : LastingFault)
        → LeavesDesk (seen mid) (seen new) (may_leave new) (LeavesOnly moment left_since mid new) left left_after taken taken_after e
        → ((row : ℕ) → e ≡ fault.NotAPlant row → ⊥)
        → LeavesDesk (seen old) (seen new) (may_leave new) (LeavesOnly moment left_since old new) left left_after taken taken_after e
    leaves_there (fault.NotAPlant row) h other = absurd (other row refl)
    leaves_there fault.Disk h other = ⊎_elim (λ first. inl (stood_there first.0, first.1)) (λ later. inr (untold_there later)) h
    leaves_there fault.Memory h other =
        ⊎_elim (λ first. inl (file_stays_there first.0, first.1)) (λ later. inr (untold_there later)) h
    leaves_there fault.Unsure h other = unsure_there h
    leaves_there fault.Read h other = at_once_there h
    leaves_there fault.Write h other = begun_there h
    leaves_there (fault.After last) h other = absurd h
    leaves_there (fault.Row n) h other = absurd h
    leaves_there (fault.Order n) h other = absurd h
    leaves_there (fault.Party n) h other = absurd h
    leaves_there (fault.Joins place) h other = absurd h

    module _ (disk_failed source_failed sink_failed : Bool) where
      cause_there : (e : LastingFault) → IsDeskCause (seen mid) left disk_failed source_failed sink_failed e
          → ((row : ℕ) → e ≡ fault.NotAPlant row → ⊥) → IsDeskCause (seen old) left disk_failed source_failed sink_failed e
      cause_there (fault.NotAPlant row) h other = absurd (other row refl)
      cause_there fault.Disk h other = h
      cause_there fault.Memory h other = h
      cause_there fault.Unsure h other = h
      cause_there fault.Read h other = h
      cause_there fault.Write h other = h
      cause_there (fault.After last) h other = absurd h
      cause_there (fault.Row n) h other = absurd h
      cause_there (fault.Order n) h other = absurd h
      cause_there (fault.Party n) h other = absurd h
      cause_there (fault.Joins place) h other = absurd h

      -- a file that was opened is a plant
      no_refusal : (e : LastingFault) → IsDeskCause (seen mid) left disk_failed source_failed sink_failed e → (row : ℕ)
          → e ≡ fault.NotAPlant row → ⊥
      no_refusal e is row same =
          let none : IsNoPlant (seen mid) row = subst (IsDeskCause (seen mid) left disk_failed source_failed sink_failed) same is in
          plants_are_not_refused (seen mid) stood row plant none

      pub desk_there : {T : Type 0} (result : Result T LastingFault)
          → LastingDesk {T = T} (seen mid) (seen new) (may_leave new) (LeavesOnly moment left_since mid new) left left_after taken
          taken_after disk_failed source_failed sink_failed result
          → LastingDesk {T = T} (seen old) (seen new) (may_leave new) (LeavesOnly moment left_since old new) left left_after taken
          taken_after disk_failed source_failed sink_failed result
      desk_there (Ok value) h = record { answers = answered_there h.answers; all = h.all; stopped = tt; why = tt }
      desk_there (Err e) h = record {
        answers = tt;
        all = tt;
        stopped = leaves_there e h.stopped (no_refusal e h.why);
        why = cause_there e h.why (no_refusal e h.why);
      }
