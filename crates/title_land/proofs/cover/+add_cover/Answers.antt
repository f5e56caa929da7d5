-- What a square adds to the cover: itself, nothing, or what its quarters add.
use Rattle.std.proofs.{Common.{◌≡◌, ◌∙◌, ◌++◌, List, [], map, ap, sym}, lemmas.List.{append-nil}}
use Rattle.title_land.specs.{Depth.{depth}, declared.rectangle.{Quarter.{Quarter}, Rectangle.{Rectangle}}, Covers.{cover_below, node_at}}
use Rattle.title_land.specs.{Rectangles.{holds}, Grids.{grid_has, grid_of, fills}, Laws.CoverCells.{cover_missed}}
use Rattle.title_land.specs.Laws.CoverLaws.{cover_filled, cover_cell, cover_more, cover_done}
use Rattle.title_land.proofs.cover.+add_cover.Goals.{else-levels-gt0-via-then-levels-gt0+else-meets, else-levels-gt0-via-else-levels-gt0}
use Rattle.title_land.proofs.cover.+add_cover.Goals as goal

pub returns-in_ok-push : goal.returns-in_ok-push
returns-in_ok-push t c =
    let has = grid_has c.args.grid.now in
    let filled = ap (λ (r : Rectangle). fills has r) (sym c.requires.area) ∙ sym c.fills.ensures.fills ∙ c.if-fills.true in
    let e = cover_filled depth has c.args.levels c.args.within filled in
    record {
      cover = c.in_ok-push.ensures.items
          ∙ ap (λ (xs : List (List Quarter)). c.args.nodes.now.items ++ map (node_at c.args.section) xs) (sym e);
    }

pub returns-else-levels-gt0 : goal.returns-else-levels-gt0
returns-else-levels-gt0 t c =
    let has = grid_has c.args.grid.now in
    let not_filled = ap (λ (r : Rectangle). fills has r) (sym c.requires.area) ∙ sym c.fills.ensures.fills ∙ c.if-fills.false in
    let none : cover_below depth has c.args.levels c.args.within ≡ [] = elim c.else-levels-gt0.branch [
      | else-levels-gt0-via-then-levels-gt0+else-meets w ↦
          let square_is = w.of.ensures.of ∙ ap (λ (r : Rectangle). grid_of depth (holds r)) c.requires.area in
          cover_missed depth c.args.levels c.args.within c.args.grid.now w.of.result c.requires.levels square_is
          (sym w.meets.ensures.meets ∙ w.if-meets.false)
      | else-levels-gt0-via-else-levels-gt0 w ↦ cover_cell depth has c.args.levels c.args.within not_filled w.if-levels-gt0.false
    ] in
    record {
      cover = sym (append-nil _) ∙ ap (λ (xs : List (List Quarter)). c.args.nodes.now.items ++ map (node_at c.args.section) xs)
          (sym none);
    }

pub loop-which-preserved : goal.loop-which-preserved
loop-which-preserved t c =
    let e = rw c.quarter-square.ensures.quarter at c.in_ok-add_cover.ensures.cover in
    (c.if-levels-gt0.true, cover_more _ _ c.loop-which.which-index _ _ _ _ c.loop-which-test.true c.loop-which.invariant.1 e)

pub returns-after-loop-which : goal.returns-after-loop-which
returns-after-loop-which t c =
    let has = grid_has c.args.grid.now in
    let not_filled = ap (λ (r : Rectangle). fills has r) (sym c.requires.area) ∙ sym c.fills.ensures.fills ∙ c.if-fills.false in
    record {
      cover = cover_done c.args.section depth has c.args.levels c.args.within _ _ c.loop-which.which-index not_filled
          c.if-levels-gt0.true c.loop-which-test.false c.loop-which.invariant.1;
    }
