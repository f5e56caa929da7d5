-- What an office comes to on a desk that has served what stood is a day on top of that.
use Rattle.std.proofs.Common.{◌≡◌, ◌∙◌, ◌≤◌, ◌++◌, ℕ, List, Bool, true, Option, ap, subst, sym, arith, length, length-append, map, Ok}
use Rattle.std.{proofs.{Common.{reverse}, lemmas.List.{length-map, length-reverse}}, specs.List.{AllByRecursion}}
use mathlib.Core.List.{IsPrefix}
use Rattle.title_land.specs.{Depth.{depth}, declared.survey.Township.{Township}}
use Rattle.title_chain.specs.{declared.record.Record.{Record}, Alone.{IsSerial, most_parties}}
use Rattle.title_trace.specs.{Trace.{committed}, Due.{Setting, most_townships}}
use Rattle.title_desk.specs.Told.{Books}
use Rattle.title_journal.specs.Blocks.{blocks_in}
use Rattle.title_plan.specs.{Asked.{Asked}, Onto.{BeginsWith}, Townships.{each_once}}
use Rattle.title_plan.specs.declared.line.Schedule.TheVariants as schedule
use Rattle.title_standing.specs.{Standing.{kept}, StandingLaws.{KeptAreSerial, ReplayedAreCommitted}}
use Rattle.title_spelling.specs.Laws.{DescriptionsStay, LandsHaveCells}
use Rattle.title_daybook.specs.{Files.{standing_in}, Standing.{Standing}, declared.writing.Stood.{Stood}}
use Rattle.title_daybook.specs.AddedLaws.{AddedReadsBack, CanBeWritten, IsKept, KeptAreWritten}
use Rattle.title_script.specs.Reports.{setting_of}
use Rattle.title_day.specs.{DaysOn.{GoesOnFrom, office_text_on}, OfficeRecords.{AreMadeOf, scripts_in}}
use Rattle.title_lasting.specs.{Days.{declared_in}, Footings.{stands_on}, Kept.{text_in}, Made.{HasStood, IsAsked, IsUnmade}}
use Rattle.title_lasting.specs.{Replays.{HasServed}, Laws.Additions.{block_is_new, kept_behind, news_behind}}
use Rattle.title_lasting.specs.Laws.{CellsSaid.{described_have_cells}, FineBooks.{IsWritten, all_wider, stands_written}}
use Rattle.title_lasting.specs.Laws.{FineScripts.{IsFine, script_fine}, KeptNews.{kept_again}}
use Rattle.title_lasting.specs.declared.fault.LastingFault.{LastingFault}
use Rattle.title_lasting.specs.declared.fault.LastingFault.TheVariants as fault
use Rattle.title_kept_office.specs.declared.fault.KeptOfficeFault.{KeptOfficeFault, TheVariants.{Kept, Worker, Unsettled}}
use Rattle.title_kept_office.specs.{declared.making.Made.{Made}, Makings.{IsRunOn}}
use Rattle.title_kept_office.specs.OfficeDays.{CanServe, IsOfficeMade, IsOfficeUnmade, IsOwnTrouble}
use Rattle.title_kept_office.proofs.{DeclaredParties.{made_too}, RunsKept.{made_kept}}

-- a list is no longer than one that begins with it
pub no_fewer : {A : Type 0} (xs ys : List A) → IsPrefix xs ys → length xs ≤ length ys
no_fewer xs ys p = omega (arith, length-append xs p.0, ap length p.1)

-- a desk that has served what stood has committed that
pub served_records : ReplayedAreCommitted → (townships : List Township) (records : List Record) (desk : Books)
    → HasServed townships records desk → committed desk.trace ≡ records
served_records recalled townships records desk has = ap committed has.trace ∙ (recalled records).0

module _ (recalled : ReplayedAreCommitted) (kept_serial : KeptAreSerial) (number : ℕ) (before : Standing) (left : Option (List ℕ))
    (asked : Asked) (is_asked : IsAsked (schedule.Office number) (declared_in before) left asked) (file : List ℕ)
    (stands : standing_in file ≡ Ok before) (once : each_once asked.townships ≡ true)
    (few_townships : length asked.townships ≤ most_townships) (few_names : length before.names ≤ most_parties) (desk : Books)
    (has : HasServed asked.townships before.records desk) where
  -- it can be served
  can_serve : CanServe number before left
  can_serve = record { asked = asked; is_asked = is_asked; joined = has.serial }

  pub own_unmade : (e : KeptOfficeFault) (source_failed : Bool) → IsOwnTrouble e → IsOfficeUnmade number before left source_failed e
  own_unmade (Kept (fault.NotAPlant row)) source_failed is = absurd is
  own_unmade (Kept fault.Disk) source_failed is = absurd is
  own_unmade (Kept fault.Unsure) source_failed is = absurd is
  own_unmade (Kept (fault.After last)) source_failed is = absurd is
  own_unmade (Kept (fault.Row n)) source_failed is = absurd is
  own_unmade (Kept (fault.Order n)) source_failed is = absurd is
  own_unmade (Kept (fault.Party n)) source_failed is = absurd is
  own_unmade (Kept fault.Read) source_failed is = absurd is
  own_unmade (Kept (fault.Joins place)) source_failed is = absurd is
  own_unmade (Kept fault.Memory) source_failed is = tt
  own_unmade (Kept fault.Write) source_failed is = absurd is
  own_unmade (Worker why) source_failed is = can_serve
  own_unmade (Unsettled why) source_failed is = can_serve

  module _ (cells : LandsHaveCells) (stay : DescriptionsStay) (added : AddedReadsBack) (written : KeptAreWritten)
      (begins : BeginsWith asked (declared_in before)) (stood : Stood) (so_much : HasStood stood before) (made : Made)
      (run : IsRunOn number asked desk stood made) where
    same_records : committed desk.trace ≡ before.records
    same_records = served_records recalled asked.townships before.records desk has

    goes_on : GoesOnFrom desk.setting before.records run.records
    goes_on = subst (λ (rs : List Record). GoesOnFrom desk.setting rs run.records) same_records run.goes_on

    serial : IsSerial depth asked.townships (reverse run.records)
    serial = subst (λ (s : Setting). IsSerial depth s.townships (reverse run.records)) has.setting run.goes_on.serial

    old : IsWritten before
    old = stands_written cells file before stands

    fine : IsFine asked
    fine =
        script_fine (described_have_cells cells stay) (schedule.Office number) (declared_in before) is_asked.script asked old.names
        old.texts few_names is_asked.asks

    made_of : AreMadeOf (setting_of asked) (scripts_in asked.lines 1 number) before.records run.tallies run.records
    made_of =
        let scripts = scripts_in asked.lines 1 number in
        made_too asked.names asked.townships most_parties fine.few asked.lines fine.lines number before.records run.tallies run.records
        (subst (λ (s : Setting). AreMadeOf s scripts before.records run.tallies run.records) has.setting
        (subst (λ (rs : List Record). AreMadeOf desk.setting scripts rs run.tallies run.records) same_records run.is_made))

    -- what is kept of all records can be written
    again : map kept before.records ≡ before.records
    again = kept_again before.names before.records old.records

    old_kept : AllByRecursion (IsKept asked.names) (map kept before.records)
    old_kept =
        subst (AllByRecursion (IsKept asked.names)) (sym again)
        (subst (λ (names : List (List ℕ)). AllByRecursion (IsKept names) before.records) begins.1.1
        (all_wider before.names begins.1.0 before.records old.records))

    can : CanBeWritten (stands_on asked run.records)
    can = record {
      once = once;
      few_townships = few_townships;
      names = fine.names;
      texts = fine.texts;
      few_names = fine.few;
      few_records = omega (arith, run.few, length-map (reverse run.records) kept, length-reverse run.records);
      records = made_kept asked.names (setting_of asked) asked.lines fine.lines number before.records run.tallies run.records made_of
          old_kept;
    }

    pub office_made : IsOfficeMade number before left made
    office_made = record {
      asked = asked;
      is_asked = is_asked;
      joined = has.serial;
      tallies = run.tallies;
      records = run.records;
      is_day = record {
        goes_on = (goes_on.news, goes_on.goes_on);
        serial = serial;
        many = run.many;
        tallies_are = run.tallies_are;
        counted = omega (arith, run.counted, ap length same_records);
        made = made_of;
      };
      report = run.report ∙ ap (λ (n : ℕ). office_text_on asked run.tallies n run.records) so_much.records;
      is_new = block_is_new added written before (stands_on asked run.records) goes_on.news begins.0 begins.1
          (kept_behind (reverse run.records) goes_on.news before.records goes_on.goes_on
          ∙ ap (λ (rs : List Record). map kept goes_on.news ++ rs) again) can (blocks_in file) stands stood so_much run.records
          (news_behind run.records goes_on.news before.records stood.records goes_on.goes_on so_much.records) (text_in made.block)
          run.block;
      serial = (kept_serial depth asked.townships (reverse run.records) serial).0;
    }

-- where there is nothing to go on from, no day is made
pub no_footing : (number : ℕ) (before : Standing) (left : Option (List ℕ)) (source_failed : Bool) (e : LastingFault)
    → IsUnmade (schedule.Office number) before left source_failed e → IsOfficeUnmade number before left source_failed (Kept e)
no_footing number before left source_failed e is = is
