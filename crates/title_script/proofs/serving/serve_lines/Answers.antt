-- No step is left.
use Rattle.std.proofs.{Common.{◌≡◌, ◌∙◌, List, [], subst, sym}, lemmas.List.{nil_from_length}}
use Rattle.title_plan.specs.declared.line.Line.{Line}
use Rattle.title_script.{specs.ReportLaws.{after_lines}, proofs.ServedLaws.{and_rest, none_left}}
use Rattle.title_script.proofs.serving.serve_lines.Goals as goal

pub returns : goal.returns
returns g c =
    let l = c.loop-line in
    let was = c.args.desk.now in
    let all = and_rest was.setting [] was.trace c.args.lines.now.items in
    let none = nil_from_length l.lines.items (sym l.lines.ok.0 ∙ c.in_default.ensures.cases.0) in
    let made = after_lines was.setting was.trace c.args.lines.now.items in
    record {
      setting = l.invariant.setting;
      trace = subst (λ (left : List Line). after_lines l.desk.setting l.desk.trace left ≡ made) none l.invariant.trace;
      told = none_left l.desk.setting l.all.items all l.desk.trace l.lines.items none l.invariant.told;
    }
