-- The walk begins with the whole section and all its levels.
use Rattle.std.{proofs.Common.{◌≡◌, ◌++◌, List, [], ℕ, filter, sym, ap, subst, ◌∙◌}, specs.Prelude.{OnOk}}
use Rattle.title_land.specs.{Depth.{depth}, declared.{rectangle.{TheConstants.{DEPTH}, Quarter.{Quarter}}, survey.Cell.{Cell}}, Lands.{has}}
use Rattle.title_land.specs.{CellLists.{cells_below}, Laws.Sides.{depth_is}}
use Rattle.title_land.proofs.cells.add_section.Goals as goal

pub returns : goal.returns
returns c =
    let list = λ (n : ℕ) (w : List Quarter). c.args.cells.now.items
    ++ filter (has c.args.tract.now) (cells_below depth c.args.section n w) in
    let same : list DEPTH c.section.result ≡ list depth [] = ap (list DEPTH) c.section.ensures.whole
    ∙ ap (λ (n : ℕ). list n []) (sym depth_is) in
    record {
      cells = subst (λ (cs : List Cell). OnOk c.add_square.result (c.add_square.new.cells.items ≡ cs)) same
          c.add_square.ensures.cells;
    }
