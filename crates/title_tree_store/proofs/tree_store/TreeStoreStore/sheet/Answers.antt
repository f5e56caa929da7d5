-- After the last estate the sheet is whole.
use Rattle.std.{proofs.{Common.{◌+◌, ◌≤◌, ap, ◌∙◌, arith}, lemmas.List.{take_all}}, specs.List.{flat_map}}
use Rattle.title_land.specs.{Depth.{depth}, Lands.{cover_of}}
use Rattle.title_store.specs.Sheets.{estates}
use Rattle.title_tree_store.{specs.{Forests.{grounds}, TreeSheets.{tree_sheet}}, proofs.Holdings.{sheet_is}}
use Rattle.title_tree_store.proofs.tree_store.TreeStoreStore.sheet.Goals as goal

pub returns : goal.returns
returns c =
    let store = c.args.self.now in
    let high : 3 ≤ c.loop-estate.estate-index = omega arith in
    record {
      sheet = c.loop-estate.invariant ∙ ap (flat_map
          (λ e. flat_map (tree_sheet (depth + 2) store.townships (grounds store.forest e) e) (cover_of depth c.args.tract.now)))
          (take_all c.loop-estate.estate-index estates high)
          ∙ sheet_is store.kept store.once c.args.tract.now c.requires.within;
    }
