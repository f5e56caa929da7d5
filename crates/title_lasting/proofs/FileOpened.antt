-- What the opening of a plant's file finds, and how it fails.
use Rattle.std.proofs.Common.{◌≡◌, ◌∙◌, ℕ, Bool, true, List, [], ◌∷◌, drop, length, Ok, Err}
use Rattle.std.{proofs.{Common.{refl, sym, ap, subst, arith, inl, inr}, lemmas.List.{length-map}}, specs.List.{AllByRecursion}}
use Rattle.title_chain.specs.declared.record.Record.{Record}
use Rattle.title_disk.specs.{Crashes.{Elapses, LeavesOnly, Only}, Laws.Moments.{goes_on, joined, started}}
use Rattle.title_journal.specs.{declared.fault.JournalFault.{JournalFault}, Blocks.{blocks_in, front}}
use Rattle.title_journal.specs.Rest.{StandsAlike, tail_of, texts_of}
use Rattle.title_journal.specs.declared.fault.JournalFault.TheVariants as journal
use Rattle.title_standing.specs.Records.{posted_step}
use Rattle.title_daybook.specs.{declared.fault.PlantFault.{PlantFault}, AddedLaws.{IsKept}, Books.{standing_of}, Standing.{Standing}}
use Rattle.title_daybook.specs.Files.{row_of, standing_after, standing_in}
use Rattle.title_daybook.specs.declared.fault.PlantFault.TheVariants as plant
use Rattle.title_spelling.specs.Lands.{kept_land_in}
use Rattle.title_lasting.specs.{declared.opening.Found.{Found}, Faults.{of_journal, of_plant}, Opened.{IsFoundIn, IsUnopened}}
use Rattle.title_lasting.specs.{Refusals.{IsFirstRefused}, Openings.{IsNoPlant, bytes_of, cut_behind, cut_in}, Replays.{AreShort}}
use Rattle.title_lasting.specs.Laws.{FineBooks.{stands_written}, FineRows.{LandsHaveCells}}

-- ---- reading

-- the blocks aren't read
pub unread : (file : List ℕ) (disk_failed : Bool) (failed : JournalFault) → (failed ≡ journal.Failed → disk_failed ≡ true)
    → ((row : ℕ) → failed ≡ journal.NotAPlant row → blocks_in file ≡ Err row) → IsUnopened file disk_failed (of_journal failed)
unread file disk_failed journal.Memory disk row = tt
unread file disk_failed journal.Failed disk row = disk refl
unread file disk_failed (journal.NotAPlant n) disk row = inl (ap standing_after (row n refl))

-- what stands in them isn't
pub unfound : (file : List ℕ) (disk_failed : Bool) (failed : PlantFault) → ((n : ℕ) → failed ≡ plant.Row n → standing_in file ≡ Err n)
    → IsUnopened file disk_failed (of_plant failed)
unfound file disk_failed (plant.Row n) row = inl (row n refl)
unfound file disk_failed plant.Memory row = tt

-- ---- replay

short_of : (names : List (List ℕ)) (records : List Record) → AllByRecursion (IsKept names) records → AreShort records
short_of names [] all = tt
short_of names (r ∷ records) all =
    (omega (arith, all.0.few, ap length all.0.steps, length-map all.0.posts posted_step), short_of names records all.1)

-- no record that stands in a file has too many steps
pub standing_short : LandsHaveCells kept_land_in → (file : List ℕ) (s : Standing) → standing_in file ≡ Ok s → AreShort s.records
standing_short lands file s h = let written = stands_written lands file s h in short_of s.names s.records written.records

-- the record in this place is refused, and this is its row
pub refused_there : (file : List ℕ) (found : Found) (place row : ℕ) → IsFoundIn file found
    → IsFirstRefused found.stands.townships.items (standing_of found.stands).records place → row ≡ row_of file place → IsNoPlant file row
refused_there file found place row is first there = inr (standing_of found.stands, place, is.stands, first, there)

-- ---- the end of the file

-- as many bytes are cut as lie behind the blocks
pub cut_is : (file : List ℕ) (found : Found) → IsFoundIn file found → bytes_of found.blocks.tail ≡ cut_in file
cut_is file found is =
    let there : drop found.blocks.gate.offset file ≡ drop (length (front (texts_of found.blocks))) file =
    ap (λ (n : ℕ). drop n file) is.read.offset in
    ap bytes_of (is.read.tail ∙ ap tail_of there)
    ∙ sym (ap (cut_behind file) is.read.stand)

-- while nothing is written a crash leaves what is there
module _ {D : Type 0} (seen : D → List ℕ) (may_leave : D → List ℕ → Type 0) (moment : D → ℕ) (left_since : D → ℕ → List ℕ → Type 0)
    (only_now : (disk : D) (c : List ℕ) → left_since disk (moment disk) c → may_leave disk c) where
  still : (disk : D) → Only (seen disk) (may_leave disk) → (c : List ℕ) → may_leave disk c → StandsAlike (seen disk) c
  still disk durable c here = ap blocks_in (durable c here)

  pub untouched : (disk : D) → Only (seen disk) (may_leave disk) → LeavesOnly moment left_since disk disk (StandsAlike (seen disk))
  untouched disk durable =
      started moment left_since disk (StandsAlike (seen disk)) (λ c left. still disk durable c (only_now disk c left))

  pub only_read : (old new : D) → Only (seen old) (may_leave old) → ((c : List ℕ) → may_leave new c → may_leave old c)
      → Elapses (moment old) (moment new) (left_since old) (left_since new) (may_leave new)
      → LeavesOnly moment left_since old new (StandsAlike (seen old))
  only_read old new durable crash time =
      goes_on moment left_since old old new (StandsAlike (seen old)) (may_leave new) (untouched old durable) time
      (λ c here. still old durable c (crash c here))

  -- read, and then brought to rest
  pub repaired : (old mid new : D) → Only (seen old) (may_leave old) → ((c : List ℕ) → may_leave mid c → may_leave old c)
      → Elapses (moment old) (moment mid) (left_since old) (left_since mid) (may_leave mid) → seen mid ≡ seen old
      → LeavesOnly moment left_since mid new (StandsAlike (seen mid)) → LeavesOnly moment left_since old new (StandsAlike (seen old))
  repaired old mid new durable crash time same then =
      joined moment left_since old mid new (StandsAlike (seen old)) (only_read old mid durable crash time)
      (subst (λ (file : List ℕ). LeavesOnly moment left_since mid new (StandsAlike file)) same then)
