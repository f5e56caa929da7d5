-- What is read off the estate's townships is that part of the tract's sheet.
use Rattle.std.{proofs.Common.{◌+◌, ◌++◌, ◌∙◌}, specs.List.{flat_map}}
use Rattle.title_land.specs.{Depth.{depth}, Lands.{cover_of}}
use Rattle.title_tree_store.{specs.TreeSheets.{tree_sheet}, proofs.Holdings.{part_is}}
use Rattle.title_tree_store.proofs.tree_store.TreeStoreStore.part.Goals as goal

pub returns : goal.returns
returns c =
    let store = c.args.self.now in
    record {
      part = c.in_ok-add_estate.ensures.rows ∙ (λ i. c.new-rows.ensures.items i ++ flat_map
          (tree_sheet (depth + 2) store.townships (c.of-tree.ensures.of i) c.args.estate) (cover_of depth c.args.tract.now))
          ∙ part_is store.kept store.once c.args.tract.now c.args.estate c.requires.within;
    }
