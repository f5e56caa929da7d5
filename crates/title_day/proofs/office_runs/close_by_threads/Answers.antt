-- What the office's day leaves is a report of the script.
use Rattle.std.proofs.Common.{ℕ, List, ap₂}
use Rattle.title_land.specs.declared.survey.Township.{Township}
use Rattle.title_day.{specs.Closings.{closed_text}, proofs.{OfficeCauses.{residual_is_own}, OfficeOrder.{seats_fit}}}
use Rattle.title_day.proofs.OfficeReported.{reported}
use Rattle.title_day.proofs.office_runs.close_by_threads.Goals as goal

pub returns-in_err-script-clause-why : goal.returns-in_err-script-clause-why
returns-in_err-script-clause-why g c =
    residual_is_own c.args.examiners c.args.bytes.now c.in_err-script.field-0.0 c.from_residual.result c.from_residual.ensures.1
    c.in_err-script.ensures.why

pub run_day-requires-clause-fits : goal.run_day-requires-clause-fits
run_day-requires-clause-fits g c κs within =
    let s = c.in_ok-script.ensures.script in
    seats_fit s.0.lines c.in_ok-script.script.scripts.items 1 c.args.examiners s.2.many s.2.dealt

pub returns-clause-report : goal.returns-clause-report
returns-clause-report g c =
    let plant = c.as_slice-plant.result.now in
    reported c.args.examiners c.args.bytes.now c.in_ok-script.script (record { parties = c.len-count.result; townships = plant })
    c.in_ok-day.day.tallies.items c.in_ok-day.day.records (closed_text c.in_ok-closing.closing) c.in_ok-script.ensures.script
    (ap₂ (λ (n : ℕ) (ts : List Township). record { parties = n; townships = ts }) c.len-count.ensures.len c.as_slice-plant.ensures.value)
    c.in_ok-day.ensures.told c.in_ok-day.ensures.made c.in_ok-day.ensures.counted c.in_ok-day.ensures.serial
    c.in_ok-closing.ensures.text
