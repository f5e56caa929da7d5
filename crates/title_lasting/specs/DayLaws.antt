-- Laws of days. Traces have the newest call first.
use Rattle.std.specs.{Prelude.{◌≡◌, ◌≤◌, ℕ, List, true, length, Ok}, List.{list_all}, Str.{is_utf8}}
use Rattle.title_chain.specs.Alone.{most_parties}
use Rattle.title_trace.specs.declared.call.Call.{Call}
use Rattle.title_plan.specs.{declared.line.Schedule.{Schedule}, Asked.{Asked}, Onto.{Before, script_onto}}
use Rattle.title_standing.specs.StandingLaws.{widest}
use Rattle.title_script.specs.{ReportLaws.{after_lines}, Reports.{report_of, report_onto, setting_of}}
use Rattle.title_spelling.specs.Rows.{are_names}
use Rattle.title_daybook.specs.{Files.{IsPlant}, Standing.{Standing, nothing_standing}}
use Rattle.title_lasting.specs.{Days.{Day, IsDay, report_on_day}, Openings.{IsNoPlant}}

-- Among parties whose names are names and text, each of one party, a script posts between parties that are declared. So at a desk with
-- room for the most parties it has the report, and leaves the trace, that it has at one for the declared ones alone.
abbrev pub ReportsGoByDeclared : Type 0
ReportsGoByDeclared =
    (sched : Schedule) (before : Before) (script : List ℕ) (asked : Asked) → are_names before.names ≡ true
    → list_all is_utf8 before.names ≡ true → length before.names ≤ most_parties → script_onto sched before script ≡ Ok asked
    → (trace : List Call)
    → (report_onto (widest asked.townships) trace asked ≡ report_onto (setting_of asked) trace asked)
    × (after_lines (widest asked.townships) trace asked.lines ≡ after_lines (setting_of asked) trace asked.lines)

-- so the first day on a file has the report that the script has alone
abbrev pub FirstDaysAreAlone : Type 0
FirstDaysAreAlone =
    (sched : Schedule) (file script : List ℕ) (d : Day) → IsDay sched file script d → d.before ≡ nothing_standing
    → report_of sched script ≡ Ok (report_on_day d)

-- a file that is a plant is refused by no row
abbrev pub PlantsAreNotRefused : Type 0
PlantsAreNotRefused = (file : List ℕ) (s : Standing) (row : ℕ) → IsPlant file s → IsNoPlant file row → ⊥
