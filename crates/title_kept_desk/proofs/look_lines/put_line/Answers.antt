-- A blank line stays one, and of any other its row is put.
use Rattle.std.proofs.Common.{◌≡◌, ◌∙◌, ◌++◌, ◌∷◌, [], List, ℕ, ap, sym}
use Rattle.title_counter.specs.Lines.{line_feed}
use Rattle.title_kept_desk.proofs.LookLines.{blank_ended, is_nothing, line_ended}
use Rattle.title_kept_desk.proofs.look_lines.put_line.Goals as goal

pub returns-then-is_blank-clause-put : goal.returns-then-is_blank-clause-put
returns-then-is_blank-clause-put c =
    let line = c.args.line.now.items in
    let blank = sym (rw c.as_slice-begun.ensures.value at c.is_blank.ensures.blank) ∙ c.if-is_blank.true in
    c.in_ok-put_blank.ensures.put ∙ ap (λ (text : List ℕ). c.args.lines.now.items ++ text) (blank_ended line blank)

pub returns-then-is_blank-clause-next : goal.returns-then-is_blank-clause-next
returns-then-is_blank-clause-next c =
    let blank = sym (rw c.as_slice-begun.ensures.value at c.is_blank.ensures.blank) ∙ c.if-is_blank.true in
    is_nothing c.args.line.now.items blank

pub returns-clause-put : goal.returns-clause-put
returns-clause-put c =
    let line = c.args.line.now.items in
    let some = sym (rw c.as_slice-begun.ensures.value at c.is_blank.ensures.blank) ∙ c.if-is_blank.false in
    let row : c.as_slice-row.result.now ≡ line ++ line_feed ∷ [] = c.as_slice-row.ensures.value ∙ c.in_ok-push.ensures.items in
    rw row at c.in_ok-put_row.ensures.put ∙ ap (λ (text : List ℕ). c.args.lines.now.items ++ text) (line_ended line some)
