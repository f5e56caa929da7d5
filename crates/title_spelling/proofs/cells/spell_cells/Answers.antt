-- One row more, and all of them.
use Rattle.std.{proofs.Common.{◌≡◌, ◌∙◌, ◌++◌, ℕ, List, append_assoc, ap, sym, arith}, specs.{Prelude.{codes}, String.{string_bytes}}}
use Rattle.std.specs.List.{flat_map, range_with_len}
use Rattle.title_land.specs.{Depth.{depth}, Grids.{grid_has}, Survey.{side}, Texts.{section_text}, Laws.Sides.{side_is}}
use Rattle.title_spelling.{specs.Cells.{row_text}, proofs.CellsForm.{rows_step}}
use Rattle.title_spelling.proofs.cells.spell_cells.Goals as goal

pub loop-row-preserved : goal.loop-row-preserved
loop-row-preserved c =
    let f = row_text (grid_has c.args.cells.now) in
    let before = string_bytes c.in_ok-text.text in
    c.in_ok-push_row.ensures.added ∙ ap (λ (t : List ℕ). t ++ f c.loop-row.row) c.loop-row.invariant
    ∙ append_assoc before (flat_map f (range_with_len 0 c.loop-row.row)) (f c.loop-row.row)
    ∙ ap (λ (t : List ℕ). before ++ t) (sym (rows_step f c.loop-row.row))

pub returns : goal.returns
returns c =
    let f = row_text (grid_has c.args.cells.now) in
    let all : c.loop-row.row ≡ side depth = omega (arith, side_is, c.loop-row.auto.row-end, c.loop-row-test.false) in
    record {
      spelled = c.loop-row.invariant ∙ ap (λ (t : List ℕ). t ++ flat_map f (range_with_len 0 c.loop-row.row)) c.in_ok-text.ensures.ok
          ∙ ap (λ (n : ℕ). (section_text c.args.section ++ codes " cells") ++ flat_map f (range_with_len 0 n)) all;
    }
