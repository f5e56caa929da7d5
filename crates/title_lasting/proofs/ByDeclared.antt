-- Between declared parties an instrument can stand where there may be more, so no reply goes by that.
use Rattle.std.proofs.Common.{◌≡◌, ◌∙◌, ◌≤◌, ◌<◌, ◌||◌, ℕ, Bool, false, cond, List, [], ◌∷◌, ◌++◌, length, refl, sym, ap, ap₂, subst, arith}
use Rattle.std.{proofs.{Common.{Option, Some, Ok}, lemmas.Bool.{lt-leb}}, specs.{List.{AllByRecursion}, Prelude.{nat_le}}}
use Rattle.title_land.specs.{Depth.{depth}, declared.survey.Township.{Township}, Lands.{is_in_plant}}
use Rattle.title_instrument.specs.{declared.{instrument.Instrument.{Instrument}, parts.Cause.{Cause}}, Parties.{grantee_of, grantor_of}}
use Rattle.title_instrument.specs.declared.parts.Cause.TheVariants.{Party, SameParty, NoEstate, Reservation}
use Rattle.title_instrument.specs.Check.{first_cause, first_of_causes, holds}
use Rattle.title_chain.specs.{declared.ask.Ask.{Ask}, Asks.{cause_of, tract_of}, Alone.{most_parties}}
use Rattle.title_chain.specs.declared.ask.Ask.TheVariants as ask
use Rattle.title_trace.specs.{declared.call.{Call.{Call}, Request.{Request}, Reply.{Reply}}, Trace.{examiner_of, is_open, open_steps}}
use Rattle.title_trace.specs.Due.{Setting, due_step, most_steps}
use Rattle.title_trace.specs.declared.call.Request.TheVariants as request
use Rattle.title_plan.specs.{declared.line.Line.{Line}, Asked.{Asked}, Lands.{land_in}, Onto.{OntoNothing, nothing_before, script_onto}}
use Rattle.title_plan.specs.Plans.{script_of}
use Rattle.title_plan.specs.declared.line.Line.TheVariants as line
use Rattle.title_desk.specs.Singles.{ending}
use Rattle.title_script.specs.{ReportLaws.{after_lines}, Served.{after_call, after_line, due_rows, line_rows, reply_to}}
use Rattle.title_script.specs.Reports.{report_of, report_onto, report_or_fault, setting_of}
use Rattle.title_report.specs.Replies.{end_row, reply_rows}
use Rattle.title_spelling.specs.Posts.{IsExaminer}
use Rattle.title_page.specs.Rows.{row, rows_text}
use Rattle.title_standing.specs.{Standing.{replayed}, StandingLaws.{widest}}
use Rattle.title_daybook.specs.Standing.{Standing}
use Rattle.title_lasting.specs.{DayLaws.{FirstDaysAreAlone, ReportsGoByDeclared}, Days.{declared_in, setting_on}}
use Rattle.title_lasting.specs.Laws.{CallsMore.{ends}, FineRows.{LandsHaveCells, first_is_text}}
use Rattle.title_lasting.specs.Laws.{FineScripts.{FineAsk, FineStep, script_fine}, FineTraces.{FineRequest}}

module _ (names : List (List ℕ)) (townships : List Township) (most : ℕ) (few : length names ≤ most) where
  -- the desk for the declared parties, and one with room for more
  abbrev narrow : Setting
  narrow = record { parties = length names; townships = townships }

  abbrev wide : Setting
  wide = record { parties = most; townships = townships }

  declared : (n : ℕ) (i : Instrument ℕ) → grantor_of i < n → grantee_of i < n → holds n i Party ≡ false
  declared n i h k = ap₂ (λ (a b : Bool). a || b) (lt-leb n (grantor_of i) h) (lt-leb n (grantee_of i) k)

  same_cause : (i : Instrument ℕ) → grantor_of i < length names → grantee_of i < length names
      → first_cause (length names) i ≡ first_cause most i
  unfolding first_cause
  same_cause i h k =
      let rest : Option Cause = first_of_causes most i (SameParty ∷ NoEstate ∷ Reservation ∷ []) in
      ap (λ (b : Bool). cond b (Some Party) rest) (declared (length names) i h k)
      ∙ sym (ap (λ (b : Bool). cond b (Some Party) rest) (declared most i (omega (arith, h, few)) (omega (arith, k, few))))

  same_for : (e : ℕ) (a : Ask) → FineAsk names e a → cause_of (length names) a ≡ cause_of most a
  same_for e (ask.Sheet t) is = refl
  same_for e (ask.Chain t) is = refl
  same_for e (ask.Post p) is = same_cause p.instrument is.grantor is.grantee

  same_reply : (before : List Call) (q : Request) → FineRequest IsExaminer (FineAsk names) q
      → reply_to narrow before q ≡ reply_to wide before q
  unfolding reply_to
  same_reply before (request.Begin e) is = refl
  same_reply before (request.Step e a) is =
      ap (λ (cause : Option Cause). due_step depth wide before e a (is_open e before) (is_in_plant townships (tract_of a)) cause
      (nat_le most_steps (length (open_steps before e)))) (same_for e a is.1)
  same_reply before (request.Commit e) is = refl
  same_reply before (request.Abort e) is = refl

  same_call : (before : List Call) (q : Request) → FineRequest IsExaminer (FineAsk names) q
      → after_call narrow before q ≡ after_call wide before q
  unfolding after_call
  same_call before q is = ap (λ (r : Reply). record { request = q; reply = r } ∷ before) (same_reply before q is)

  -- ---- rows and traces

  same_rows : (before : List Call) (l : Line) → FineStep names l → line_rows narrow names before l ≡ line_rows wide names before l
  same_rows before (line.Asks q) is = ap (reply_rows names (examiner_of q)) (same_reply before q is)
  same_rows before (line.Alone e a) is =
      ap (reply_rows names e) (ap (λ (t : List Call). reply_to narrow t (request.Step e a)) (same_call before (request.Begin e) is.0)
      ∙ same_reply (after_call wide before (request.Begin e)) (request.Step e a) is)
  same_rows before (line.Described e why) is = refl

  same_line : (before : List Call) (l : Line) → FineStep names l → after_line narrow before l ≡ after_line wide before l
  same_line before (line.Asks q) is = same_call before q is
  same_line before (line.Alone e a) is =
      let q : Request = request.Step e a in
      let wide_begun : List Call = after_call wide before (request.Begin e) in
      let begun : after_call narrow before (request.Begin e) ≡ wide_begun = same_call before (request.Begin e) is.0 in
      let told : reply_to narrow (after_call narrow before (request.Begin e)) q ≡ reply_to wide wide_begun q =
      ap (λ (t : List Call). reply_to narrow t q) begun ∙ same_reply wide_begun q is in
      let asked : after_call narrow (after_call narrow before (request.Begin e)) q ≡ after_call wide wide_begun q =
      ap (λ (t : List Call). after_call narrow t q) begun ∙ same_call wide_begun q is in
      ap₂ (λ (t : List Call) (r : Reply). after_call narrow t (ending e r)) asked told
      ∙ same_call (after_call wide wide_begun q) (ending e (reply_to wide wide_begun q))
      (ends IsExaminer (FineAsk names) e (reply_to wide wide_begun q) is.0)
  same_line before (line.Described e why) is = refl

  pub same_report : (before : List Call) (lines : List Line) → AllByRecursion (FineStep names) lines
      → due_rows narrow names before lines ≡ due_rows wide names before lines
  same_report before [] is = refl
  same_report before (l ∷ lines) is =
      ap₂ (λ (rows more : List (List (List ℕ))). rows ++ more) (same_rows before l is.0)
      (ap (λ (t : List Call). due_rows narrow names t lines) (same_line before l is.0) ∙ same_report (after_line wide before l) lines is.1)

  pub same_trace : (before : List Call) (lines : List Line) → AllByRecursion (FineStep names) lines
      → after_lines narrow before lines ≡ after_lines wide before lines
  same_trace before [] is = refl
  same_trace before (l ∷ lines) is =
      ap (λ (t : List Call). after_lines narrow t lines) (same_line before l is.0) ∙ same_trace (after_line wide before l) lines is.1

-- ---- the laws

-- a report is its rows' text, and the last row
rows_and_end : (asked : Asked) (s t : Setting) (before : List Call)
    → due_rows s asked.names before asked.lines ≡ due_rows t asked.names before asked.lines
    → report_onto s before asked ≡ report_onto t before asked
rows_and_end asked s t before same =
    ap (λ (rows : List (List (List ℕ))). rows_text rows ++ row (end_row (length asked.lines))) same

pub go_by_declared : LandsHaveCells land_in → ReportsGoByDeclared
go_by_declared lands sched before script asked are texts few asks trace =
    let fine = script_fine lands sched before script asked are texts few asks in (
      rows_and_end asked (widest asked.townships) (setting_of asked) trace
          (sym (same_report asked.names asked.townships most_parties fine.few trace asked.lines fine.lines)),
      sym (same_trace asked.names asked.townships most_parties fine.few trace asked.lines fine.lines),
    )

pub first_is_alone : LandsHaveCells land_in → OntoNothing → FirstDaysAreAlone
unfolding report_of
first_is_alone lands alone sched file script d is_day none =
    let asks : script_onto sched nothing_before script ≡ Ok d.asked =
    subst (λ (s : Standing). script_onto sched (declared_in s) script ≡ Ok d.asked) none is_day.asks in
    let said : script_of sched script ≡ Ok d.asked = sym (alone sched script) ∙ asks in
    let here = (go_by_declared lands sched nothing_before script d.asked refl first_is_text (omega arith) asks []).0 in
    ap report_or_fault said ∙ ap Ok (sym (ap (λ (s : Standing). report_onto (setting_on d) (replayed s.records) d.asked) none ∙ here))
