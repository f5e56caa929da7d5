-- A batch that is put into a plant's file, and what a crash leaves meanwhile.
use Rattle.std.proofs.{Common.{◌≡◌, ◌≤◌, ◌<◌, ◌^◌, ℕ, Bool, true, List, length}, lemmas.List.{length-append, length-map}}
use Rattle.std.proofs.Common.{Option, Err, refl, sym, ap, subst, arith, inl, inr, ⊎_elim}
use Rattle.title_land.specs.Depth.{depth}
use Rattle.title_chain.specs.Alone.{most_parties}
use Rattle.title_trace.specs.{Trace.{committed}, Due.{most_townships}, Serial.{IdleHaveNoSteps}}
use Rattle.title_disk.specs.{Crashes.{LeavesOnly, Only}, Laws.Moments.{started, weakened}}
use Rattle.title_journal.specs.{declared.fault.PutFault.{PutFault}, Rest.{StandsAlike}}
use Rattle.title_journal.specs.declared.fault.PutFault.TheVariants as put
use Rattle.title_plan.specs.{Lands.{land_in}, Townships.{each_once}}
use Rattle.title_standing.specs.{Standing.{kept}, StandingLaws.{KeptAreSerial, ReplayedAreCommitted}}
use Rattle.title_spelling.specs.Lands.{kept_land_in}
use Rattle.title_daybook.specs.AddedLaws.{CanBeWritten}
use Rattle.title_counter.specs.{Counters.{Counter}, Sessions.{IsSound}}
use Rattle.title_lasting.specs.{Faults.{of_put}, Kept.{IsWithOrWithout}, Made.{Adds}}
use Rattle.title_lasting.specs.Laws.{GoingOn.{commits_more}, FineBooks.{IsWritten, stands_written}, FineRows.{LandsHaveCells}}
use Rattle.title_kept_desk.specs.{declared.mark.Mark.{Mark}, Sittings.{ComesTo, HasAt, HasAtEither, IsKeptTo, Now, opening_on, stands_at}}
use Rattle.title_kept_desk.proofs.BatchMade.{has_still, has_then, kept_serial, opens_fine, writable}
use Rattle.title_kept_desk.proofs.FineCounters.{Fares, GoesOnFrom, answers_fare, on_from}

-- ---- from the one counter to the other

module _ (lands : LandsHaveCells land_in) (lands_kept : LandsHaveCells kept_land_in) (c d : Counter) (comes : ComesTo c d) where
  was : IsWritten comes.come.before
  was = stands_written lands_kept comes.come.file comes.come.before comes.come.stood

  to_c : Fares comes.come.before (opening_on comes.come.before) c
  to_c =
      answers_fare comes.come.before lands (opening_on comes.come.before) comes.come.lines comes.come.text c
      (opens_fine comes.come.before was) comes.come.answers

  to_d : Fares comes.come.before c d
  to_d = answers_fare comes.come.before lands c comes.lines comes.text d to_c.fine comes.answers

  pub on_to : GoesOnFrom c d
  on_to = to_d.goes_on

  pub can_be_written : ReplayedAreCommitted → IdleHaveNoSteps depth → IsSound d → each_once d.townships ≡ true
      → length d.townships ≤ most_townships → length d.names ≤ most_parties → length (committed d.trace) < 2 ^ 64
      → CanBeWritten (stands_at d)
  can_be_written recalled idle sound once few_townships few_names few_records =
      writable recalled idle comes.come.before was d to_d.fine
      (on_from (opening_on comes.come.before) c d to_c.goes_on to_d.goes_on) sound once few_townships few_names few_records

-- a counter has no less than the one from which it goes on
pub no_less_townships : (c d : Counter) → GoesOnFrom c d → (n : ℕ) → n ≡ length c.townships → n ≤ length d.townships
no_less_townships c d on n is = omega (arith, is, ap length on.townships_are, length-append c.townships on.townships)

pub no_less_names : (c d : Counter) → GoesOnFrom c d → (n : ℕ) → n ≡ length c.names → n ≤ length d.names
no_less_names c d on n is = omega (arith, is, ap length on.names_are, length-append c.names on.names)

pub no_less_records : (c d : Counter) → GoesOnFrom c d → (n : ℕ) → n ≡ length (stands_at c).records → n ≤ length (committed d.trace)
no_less_records c d on n is =
    let more = commits_more on.calls c.trace in
    omega (
      arith,
      is,
      length-map (committed c.trace) kept,
      ap (λ t. length (committed t)) on.trace_is,
      ap length more.1,
      length-append more.0 (committed c.trace),
    )

-- ---- what a crash leaves

module _ {D : Type 0} (seen : D → List ℕ) (may_leave : D → List ℕ → Type 0) (has_failed : D → Bool) (moment : D → ℕ)
    (left_since : D → ℕ → List ℕ → Type 0) where
  -- where nothing is written, a crash leaves what is there
  pub still_there : ((disk : D) (file : List ℕ) → left_since disk (moment disk) file → may_leave disk file) → (disk : D)
      (P : List ℕ → Type 0) → Only (seen disk) (may_leave disk) → P (seen disk) → LeavesOnly moment left_since disk disk P
  still_there only_now disk P durable here =
      started moment left_since disk P (λ file left. subst P (sym (durable file (only_now disk file left))) here)

  -- what a crash may leave now is what one at some moment of the run might have left
  pub leaves_now : ((disk : D) (t : ℕ) (file : List ℕ) → t ≤ moment disk → may_leave disk file → left_since disk t file) → (old new : D)
      (P : List ℕ → Type 0) → LeavesOnly moment left_since old new P → Now seen may_leave has_failed new P
  leaves_now counts_now old new P leaves file may = leaves.each file (counts_now new (moment old) file leaves.later may)

  module _ (old new : D) (c d : Counter) (block : Option (List ℕ)) (has : HasAt c (seen old))
      (adds : Adds block (stands_at c) (stands_at d)) (serial : KeptAreSerial) (sound : IsSound d) where
    on_one_side : (file : List ℕ) → IsWithOrWithout block (seen old) file → HasAtEither c d file
    on_one_side file here =
        ⊎_elim (λ same. inl (has_still (seen old) file c has same))
        (λ more. inr (has_then (seen old) file c d block has adds (kept_serial serial d sound) more)) here

    -- while a block is put a crash leaves the one or the other
    pub either_side : LeavesOnly moment left_since old new (IsWithOrWithout block (seen old))
        → LeavesOnly moment left_since old new (HasAtEither c d)
    either_side leaves =
        weakened moment left_since old new (IsWithOrWithout block (seen old)) (HasAtEither c d) on_one_side leaves

    before_side : LeavesOnly moment left_since old new (StandsAlike (seen old)) → LeavesOnly moment left_since old new (HasAt c)
    before_side leaves =
        weakened moment left_since old new (StandsAlike (seen old)) (HasAt c) (λ file same. has_still (seen old) file c has same) leaves

    -- the block isn't put
    pub unput : ((disk : D) (t : ℕ) (file : List ℕ) → t ≤ moment disk → may_leave disk file → left_since disk t file)
        → (mark : Mark) (f : PutFault) → has_failed new ≡ true → LeavesOnly moment left_since old new (IsWithOrWithout block (seen old))
        → (f ≡ put.Before → LeavesOnly moment left_since old new (StandsAlike (seen old)))
        → IsKeptTo seen may_leave has_failed {T = Unit {0}} (Err (of_put f)) (LeavesOnly moment left_since old new) new mark c d
    unput counts_now mark put.Before failed both still =
        let leaves = before_side (still refl) in (failed, leaves, leaves_now counts_now old new (HasAt c) leaves)
    unput counts_now mark put.Unsure failed both still =
        let leaves = either_side both in (failed, leaves, leaves_now counts_now old new (HasAtEither c d) leaves)
