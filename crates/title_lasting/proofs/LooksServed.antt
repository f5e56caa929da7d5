-- A script of looks that is served at a desk which has served what stood, and why none is.
use Rattle.std.proofs.Common.{◌≡◌, ◌∙◌, ◌⊎◌, ◌<◌, ◌++◌, ℕ, List, Bool, true, Option, IfSome, Err, refl, sym, ap, subst, inl, inr}
use Rattle.std.proofs.Common.{length, reverse}
use Rattle.title_land.specs.declared.survey.Township.{Township}
use Rattle.title_store.specs.Plants.{Plant}
use Rattle.title_chain.specs.declared.record.Record.{Record}
use Rattle.title_trace.specs.{declared.call.Call.{Call}, Trace.{committed}, Due.{Setting}}
use Rattle.title_desk.specs.{Headline.{Headline}, Told.{Books}}
use Rattle.title_device.specs.{Limits.{most_bytes}, declared.fault.ReadFault.{ReadFault}}
use Rattle.title_device.specs.declared.fault.ReadFault.TheVariants as reading
use Rattle.title_plan.specs.{Asked.{Asked}, Onto.{Before, script_onto}, declared.fault.ScriptFault.{ScriptFault}}
use Rattle.title_plan.specs.declared.fault.ScriptFault.TheVariants as script_fault
use Rattle.title_plan.specs.declared.line.Schedule.TheVariants as schedule
use Rattle.title_script.specs.{declared.told.Served.{Served}, ReportLaws.{after_lines}, Reports.{report_onto}, Told.{served_text}}
use Rattle.title_standing.specs.StandingLaws.{ReplayedAreCommitted}
use Rattle.title_daybook.specs.Standing.{Standing}
use Rattle.title_lasting.specs.{declared.fault.LastingFault.{LastingFault}, Days.{declared_in, evening, morning, report_on_day, setting_on}}
use Rattle.title_lasting.specs.{Faults.{of_reading, of_script}, Lastings.{IsLeft}}
use Rattle.title_lasting.specs.{Looks.{IsLookAsked, IsLookOn, IsLookServed, IsLookUnread, IsOtherText, look_day}, Made.{served_at}}
use Rattle.title_lasting.specs.Replays.{HasServed}
use Rattle.title_lasting.specs.Laws.{CallsMore.{steps_go_on}, GoingOn.{commits_more}}
use Rattle.title_lasting.proofs.{DayServed.{at_same}, LookScripts.{declares_none}}
use Rattle.title_lasting.specs.declared.fault.LastingFault.TheVariants as fault

-- ---- what was served

-- the headline is true of the desk that has served the plan
pub headline_at : (desk now : Books) (asked : Asked) (content : Plant) (records : List Record) → now.setting ≡ desk.setting
    → now.trace ≡ served_at desk asked → Headline now.setting now.trace content (reverse records)
    → (c : Plant) × Headline desk.setting (served_at desk asked) c (committed (served_at desk asked))
headline_at desk now asked content records same_setting same_trace headline =
    let told_all = subst (Headline now.setting now.trace content) headline.records_are_committed headline in (
      content,
      at_same (λ (s : Setting) (t : List Call). Headline s t content (committed t)) now.setting desk.setting now.trace
          (served_at desk asked) same_setting same_trace told_all,
    )

-- and what came of the plan is the day's
module _ (recalled : ReplayedAreCommitted) (before : Standing) (left : Option (List ℕ)) (asked : Asked)
    (is_asked : IsLookAsked (declared_in before) left asked) (desk : Books) (stood : HasServed before.townships before.records desk)
    (served : Served) (is : IsLookServed desk asked served) where
  has : HasServed asked.townships before.records desk
  has =
      subst (λ (ts : List Township). HasServed ts before.records desk)
      (sym (declares_none (declared_in before) is_asked.asks.script asked is_asked.looks is_asked.asks.asks)) stood

  -- what is told of the desk is told of the day's
  on_day : (P : Setting → List Call → Type 0) → P desk.setting desk.trace
      → P (setting_on (look_day before asked)) (morning (look_day before asked))
  on_day P p =
      at_same P desk.setting (setting_on (look_day before asked)) desk.trace (morning (look_day before asked)) has.setting has.trace p

  more_committed : (news : List Record) × (committed (evening (look_day before asked)) ≡ news ++ before.records)
  more_committed =
      let more = steps_go_on (setting_on (look_day before asked)) (morning (look_day before asked)) asked.lines in
      let news = commits_more more.0 (morning (look_day before asked)) in (
        news.0,
        ap committed more.1 ∙ news.1 ∙ ap (λ (records : List Record). news.0 ++ records) (recalled before.records).0,
      )

  pub look_on : IsLookOn before left asked
  look_on = record {
    is_asked = is_asked;
    joined = has.serial;
    goes_on = more_committed;
    headline = on_day (λ (s : Setting) (t : List Call). (content : Plant)
        × Headline s (after_lines s t asked.lines) content (committed (after_lines s t asked.lines))) is.headline;
  }

  pub report_is : served_text served ≡ report_on_day (look_day before asked)
  report_is = on_day (λ (s : Setting) (t : List Call). served_text served ≡ report_onto s t asked) is.report

-- ---- why none was

module _ (before : Before) (left : Option (List ℕ)) (source_failed : Bool) where
  -- the source isn't read to its end
  pub source_unread : (e : ReadFault) → (e ≡ reading.Read → (source_failed ≡ true) ⊎ IfSome left (λ bytes. most_bytes < length bytes))
      → IsLookUnread before left source_failed (of_reading e)
  source_unread reading.Read why = why refl
  source_unread reading.Memory why = tt

  module _ (script : List ℕ) (read : IsLeft left script) where
    -- a row doesn't only look
    pub other_unread : (e : LastingFault) → IsOtherText script e → IsLookUnread before left source_failed e
    other_unread (fault.Row n) is = inl (record { script = script; read = read; other = is })
    other_unread fault.Memory is = tt
    other_unread (fault.NotAPlant row) is = absurd is
    other_unread fault.Disk is = absurd is
    other_unread fault.Unsure is = absurd is
    other_unread (fault.After last) is = absurd is
    other_unread (fault.Order n) is = absurd is
    other_unread (fault.Party n) is = absurd is
    other_unread fault.Read is = absurd is
    other_unread (fault.Joins place) is = absurd is
    other_unread fault.Write is = absurd is

    -- a row is at fault
    pub script_unread : (e : ScriptFault) → (e ≡ script_fault.Memory) ⊎ (script_onto schedule.Serial before script ≡ Err e)
        → IsLookUnread before left source_failed (of_script e)
    script_unread (script_fault.Row n) (inl other) = absurd (cc other)
    script_unread (script_fault.Row n) (inr is) = inr (record { script = script; read = read; first_fault = is })
    script_unread (script_fault.Order n) (inl other) = absurd (cc other)
    script_unread (script_fault.Order n) (inr is) = record { script = script; read = read; first_fault = is }
    script_unread (script_fault.Party n) (inl other) = absurd (cc other)
    script_unread (script_fault.Party n) (inr is) = record { script = script; read = read; first_fault = is }
    script_unread script_fault.Memory why = tt
