-- After the last estate the sheet is whole.
use Rattle.std.{proofs.{Common.{◌+◌, ◌≤◌, ap, ◌∙◌, arith}, lemmas.List.{take_all}}, specs.List.{flat_map}}
use Rattle.title_land.specs.{Depth.{depth}, Lands.{cover_of}}
use Rattle.title_cell_store.specs.CellMaps.{content_of}
use Rattle.title_store.specs.Sheets.{sheet_below, estates, sheet_of}
use Rattle.title_cell_store.proofs.cell_store.CellStoreStore.sheet.Goals as goal

pub returns : goal.returns
unfolding sheet_of
returns c =
    let high : 3 ≤ c.loop-estate.estate-index = omega arith in
    record {
      sheet = c.loop-estate.invariant ∙ ap (flat_map
          (λ e. flat_map (sheet_below (depth + 2) depth c.args.self.now.townships.items (content_of c.args.self.now.map) e)
          (cover_of depth c.args.tract.now))) (take_all c.loop-estate.estate-index estates high);
    }
