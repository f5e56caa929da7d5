-- What is written of an office's day is a report of its script.
use Rattle.std.proofs.{Common.{◌≡◌, ◌∙◌, ℕ, List, [], length, map, reverse, ap, subst, sym}, lemmas.List.{length-map}}
use Rattle.std.specs.String.{string_bytes}
use Rattle.title_land.specs.{Depth.{depth}, declared.survey.Township.{Township}}
use Rattle.title_chain.specs.{declared.record.Record.{Record}, Alone.{IsSerial}}
use Rattle.title_trace.specs.Due.{Setting}
use Rattle.title_turns.specs.Dealt.{Dealt, told_by}
use Rattle.title_dealing.specs.{declared.office_script.OfficeScript.{OfficeScript}, OfficeScripts.{IsOfficeScript}}
use Rattle.title_script.specs.Reports.{setting_of}
use Rattle.title_day.specs.{declared.tally.Tally.{Tally}, OfficeDays.{AreTold, committed_by}, OfficeRecords.{AreMadeOf, scripts_in}}
use Rattle.title_day.specs.{DaysOn.{closing_text_on}, OfficeReports.{closing_text}, OfficeRuns.{IsReportOf}}
use Rattle.title_day.specs.Laws.NothingStood.{nothing_stood}
use Rattle.title_day.proofs.{OfficeCounts.{told_many, told_tallies}, OfficeOrder.{scripts_asked}}

pub reported : (number : ℕ) (bytes : List ℕ) (script : OfficeScript) (setting : Setting) (tallies : List Tally)
    (records : List Record) (text : List ℕ) → IsOfficeScript number bytes script →
    setting ≡ record { parties = length script.parties.keys; townships = script.townships.items } →
    AreTold script.scripts.items tallies → AreMadeOf setting (map told_by script.scripts.items) [] tallies records →
    committed_by tallies ≡ length records → IsSerial depth setting.townships (reverse records) →
    text ≡ closing_text_on setting.townships (map string_bytes script.parties.keys) script.steps tallies 0 records →
    IsReportOf number bytes text
reported number bytes script setting tallies records text is same told made counted serial written =
    let asked = is.0 in
    let dealt = is.2 in
    let names = map string_bytes script.parties.keys in
    let many : length script.parties.keys ≡ length asked.names =
    sym (length-map script.parties.keys string_bytes) ∙ ap length dealt.names in
    let opened : setting ≡ setting_of asked =
    same ∙ ap (λ (n : ℕ). record { parties = n; townships = script.townships.items }) many
    ∙ ap (λ (ts : List Township). record { parties = length asked.names; townships = ts }) dealt.townships in
    let of_script = ap (λ (s : Setting). closing_text s.townships names script.steps tallies records) opened
    ∙ ap (λ (ns : List (List ℕ)). closing_text asked.townships ns script.steps tallies records) dealt.names
    ∙ ap (λ (n : ℕ). closing_text asked.townships asked.names n tallies records) dealt.steps in (
      asked,
      is.1,
      record {
        tallies = tallies;
        records = records;
        serial = subst (λ (s : Setting). IsSerial depth s.townships (reverse records)) opened serial;
        many = told_many script.scripts.items tallies told ∙ dealt.many;
        tallies_are = told_tallies asked.lines 1 script.scripts.items tallies dealt.dealt told;
        counted = counted;
        made = subst (λ (s : Setting). AreMadeOf s (scripts_in asked.lines 1 number) [] tallies records) opened
            (subst (λ (scripts : List (ℕ × List Dealt)). AreMadeOf setting scripts [] tallies records)
            (scripts_asked asked.lines script.scripts.items number dealt.many dealt.dealt) made);
        text_is = written ∙ nothing_stood setting.townships names script.steps tallies records ∙ of_script;
      },
    )
