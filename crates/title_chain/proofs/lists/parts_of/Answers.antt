-- One part more has the rows at the front of those that were left.
use Rattle.std.proofs.{Common.{◌∙◌, ◌++◌, List, ap, append_assoc}, lemmas.List.{take-append-drop}}
use Rattle.title_store.specs.declared.sheet_row.SheetRow.{SheetRow}
use Rattle.title_chain.specs.{SheetParts.{all_rows}, Laws.PartsInTurn.{rows_after}}
use Rattle.title_chain.proofs.lists.parts_of.Goals as goal

pub loop-first-preserved : goal.loop-first-preserved
loop-first-preserved c =
    let squares = rw c.in-Some-squares.is at c.in_ok-squares.ensures.squares in
    ap (λ (parts : List (List SheetRow)). all_rows parts ++ c.split_at.result.1.now) c.in_ok-push.ensures.items
    ∙ ap (λ (rows : List SheetRow). rows ++ c.split_at.result.1.now) (rows_after c.loop-first.parts.items c.in_ok-of.field-0
    ∙ ap (λ (rows : List SheetRow). all_rows c.loop-first.parts.items ++ rows) (c.in_ok-of.ensures.of ∙ squares))
    ∙ append_assoc (all_rows c.loop-first.parts.items) c.split_at.result.0.now c.split_at.result.1.now
    ∙ ap (λ (rows : List SheetRow). all_rows c.loop-first.parts.items ++ rows)
    ((λ i. c.split_at.ensures.front i ++ c.split_at.ensures.back i) ∙ take-append-drop _ c.loop-first.left.now)
    ∙ c.loop-first.invariant
