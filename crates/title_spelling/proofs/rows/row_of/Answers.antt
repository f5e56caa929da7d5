-- One field more, and the line's end.
use Rattle.std.{proofs.Common.{◌≡◌, ◌∙◌, ◌++◌, ◌∷◌, ◌<◌, [], ℕ, List, length, map, take, ap, sym, arith}, specs.Borrow.{Bor}}
use Rattle.std.proofs.lemmas.List.{get_or-map, length-map, take_all}
use Rattle.csv.{proofs.WriteFacts.{row-step}, specs.Writing.{field_text, next_sep, row_body}}
use Rattle.title_page.specs.{Rows.{row, row_writer}, Laws.RowTexts.{row_ends}}
use Rattle.title_spelling.proofs.rows.row_of.Goals as goal

pub loop-at-preserved : goal.loop-at-preserved
loop-at-preserved c =
    let texts = map (λ (field : Bor (List ℕ)). field.now) c.args.fields.now in
    let at = c.loop-at.at in
    let size = length-map c.args.fields.now (λ (field : Bor (List ℕ)). field.now) in
    let lt : at < length texts = omega (arith, size, c.loop-at-test.true) in
    let one = get_or-map (λ (field : Bor (List ℕ)). field.now) c.args.fields.now at _ [] c.loop-at-test.true
    ∙ sym c.as_bytes.ensures.value in
    let step = rw one at (row-step row_writer texts at lt) in
    let more = next_sep row_writer at ++ field_text row_writer c.as_bytes.result.now in
    c.in_ok-push_next.ensures.added ∙ ap (λ (t : List ℕ). t ++ more) c.loop-at.invariant ∙ sym step

pub returns : goal.returns
unfolding row
returns c =
    let texts = map (λ (field : Bor (List ℕ)). field.now) c.args.fields.now in
    let size = length-map c.args.fields.now (λ (field : Bor (List ℕ)). field.now) in
    let several : 1 < length texts = omega (arith, size, c.requires.several) in
    let all : take c.loop-at.at texts ≡ texts = take_all c.loop-at.at texts (omega (arith, size, c.loop-at-test.false)) in
    record {
      text = c.in_ok-push.ensures.items ∙ ap (λ (t : List ℕ). t ++ 10 ∷ []) c.loop-at.invariant
          ∙ ap (λ (fields : List (List ℕ)). row_body row_writer fields ++ 10 ∷ []) all ∙ sym (row_ends texts several);
    }
