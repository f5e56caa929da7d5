-- What came of the steps has the rows that are due.
use Rattle.std.{proofs.Common.{◌∙◌, map, refl}, specs.String.{string_bytes}}
use Rattle.title_script.proofs.ServedLaws.{served_onto}
use Rattle.title_script.proofs.serving.serve_onto.Goals as goal

pub returns : goal.returns
returns g c =
    let p = c.args.plan in
    let was = c.args.desk.now in
    record {
      setting = c.serve_lines.ensures.setting;
      trace = c.in_ok-told.ensures.trace;
      report = served_onto (map string_bytes p.parties.keys) p.lines.items was.setting was.trace c.in_ok-told.told.items
          c.len-steps.result c.in_ok-told.ensures.told (c.len-steps.ensures ∙ p.lines.ok.0);
      declared = (refl, refl);
    }
