-- One byte more.
use Rattle.std.proofs.{Common.{◌∙◌, ◌++◌, ◌∷◌, [], ℕ, List, take, get_or, append_assoc, ap, sym}, lemmas.List.{append-nil}}
use Rattle.csv.specs.Writing.{escaped}
use Rattle.title_page.specs.{Rows.{row_writer}, Laws.RowTexts.{escaped_more, escaped_none}}
use Rattle.title_spelling.proofs.rows.push_escaped.Goals as goal

pub loop-byte-init : goal.loop-byte-init
loop-byte-init c = rw escaped_none (sym (append-nil c.args.out.now.items))

pub loop-byte-preserved : goal.loop-byte-preserved
loop-byte-preserved c =
    let i = c.loop-byte.byte-index in
    let before = c.args.out.now.items in
    let byte = escaped row_writer (get_or c.args.field.now i 0 ∷ []) in
    c.in_ok-push_byte.ensures.added ∙ ap (λ (t : List ℕ). t ++ byte) c.loop-byte.invariant
    ∙ append_assoc before (escaped row_writer (take i c.args.field.now)) byte
    ∙ ap (λ (t : List ℕ). before ++ t) (sym (escaped_more c.args.field.now i c.loop-byte-test.true))
