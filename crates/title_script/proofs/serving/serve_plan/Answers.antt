-- The desk is the one that the plan asks, and nothing stands there.
use Rattle.std.proofs.Common.{◌≡◌, ℕ, List, IfOk, subst}
use Rattle.title_plan.specs.Asked.{asked_in}
use Rattle.title_script.{specs.Told.{served_text}, proofs.ServedLaws.{reports_alike}}
use Rattle.title_script.proofs.serving.serve_plan.Goals as goal

pub returns : goal.returns
returns g c =
    let d = c.in_ok-desk in
    let same = reports_alike (asked_in c.args.plan) d.desk.setting d.desk.trace d.ensures.setting d.ensures.trace in
    record { report = subst (λ (text : List ℕ). IfOk c.serve_onto.result (λ s. served_text s ≡ text)) same c.serve_onto.ensures.report }
