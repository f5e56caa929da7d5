-- Where nothing of a line has come there is none; else it is the last.
use Rattle.std.proofs.Common.{◌∙◌, ◌++◌, ◌∷◌, [], List, ℕ, ap, map, sym}
use Rattle.title_counter.specs.Lines.{last_line}
use Rattle.title_kept_desk.specs.LookLines.{as_look, lines_text}
use Rattle.title_kept_desk.proofs.LookLines.{is_nothing, last_some}
use Rattle.title_kept_desk.proofs.look_lines.take_rest.Goals as goal

pub returns-then-is_blank : goal.returns-then-is_blank
returns-then-is_blank c =
    let line = c.args.line.now.items in
    let blank = sym (rw c.as_slice-begun.ensures.value at c.is_blank.ensures.blank) ∙ c.if-is_blank.true in
    record {
      lines = c.new-lines.ensures.items
          ∙ ap (λ (l : List ℕ). lines_text (map as_look (last_line l))) (sym (is_nothing line blank));
    }

pub returns : goal.returns
returns c =
    let line = c.args.line.now.items in
    let some = sym (rw c.as_slice-begun.ensures.value at c.is_blank.ensures.blank) ∙ c.if-is_blank.false in
    record {
      lines = c.in_ok-put_line.ensures.put
          ∙ ap (λ (before : List ℕ). before ++ lines_text (as_look line ∷ [])) c.new-lines.ensures.items
          ∙ ap (λ (ls : List (List ℕ)). lines_text (map as_look ls)) (last_some line some);
    }
