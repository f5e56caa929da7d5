-- Sheets, read off what stands in a square.
use Rattle.std.specs.{Prelude.{◌≡◌, ℕ, ◌-◌, cond, List, [], ◌∷◌, ◌++◌, length, nat_lt}, List.{flat_map}}
use Rattle.title_land.specs.{Depth.{depth}, declared.rectangle.Quarter.{Quarter, TheVariants.{Northeast, Northwest, Southwest, Southeast}}}
use Rattle.title_land.specs.{declared.{survey.{Township.{Township}, Section.{Section}}, node.Node.{Node}}, CellLists.{sections_of}}
use Rattle.title_land.specs.declared.node.Node.TheVariants as node
use Rattle.title_instrument.specs.declared.parts.Estate.{Estate}
use Rattle.title_store.specs.{declared.sheet_row.SheetRow.{SheetRow}, Sheets.{holding_rows, rows_or}}
use Rattle.title_tree.specs.{Paths.{way}, Plots.{Plot, Same, Four, plot_at, uniform}}
use Rattle.title_tree_store.specs.{declared.ground.Ground.{Ground}, Grounds.{stands, ground_uniform, grounds_uniform, plot_in, uniform_in}}

-- what stands in a township, by its index
pub record IsAt (gs : List Ground) (i : ℕ) (g : Ground) : Type 0 where
  pub sections : (j : ℕ) → stands g j ≡ plot_in gs i j
  pub one : ground_uniform g ≡ uniform_in gs i

-- the sheet of a square of a section by what stands there: its rows where its leaves have one holding, else its quarters' sheets
abbrev pub square_sheet : Plot → Estate → Section → List Quarter → List SheetRow
square_sheet (Same held) e s w = holding_rows (node.Part s w) e held
square_sheet (Four a b c d) e s w = rows_or (node.Part s w) e (uniform (Four a b c d)) (cond (nat_lt (length w) depth)
    (square_sheet a e s (Northeast ∷ w) ++ square_sheet b e s (Northwest ∷ w) ++ square_sheet c e s (Southwest ∷ w)
    ++ square_sheet d e s (Southeast ∷ w)) [])

-- the sheet of a node, by what stands in its section
abbrev pub part_sheet : Plot → Estate → Node → List SheetRow
part_sheet t e (node.Part s w) = square_sheet (plot_at (way w) t) e s w
part_sheet t e _ = []

-- the sheet of a section, by what its township has
abbrev pub section_sheet : Ground → Estate → Section → List SheetRow
section_sheet g e s = square_sheet (stands g (s.number - 1)) e s []

-- the sheet of a township by what stands there
abbrev pub township_sheet : Ground → Estate → Township → List SheetRow
township_sheet g e t = rows_or (node.Township t) e (ground_uniform g) (flat_map (section_sheet g e) (sections_of t))

-- the sheets of townships, one after another
abbrev pub townships_sheet : List Ground → Estate → List Township → List SheetRow
townships_sheet [] e ts = []
townships_sheet (g ∷ gs) e [] = []
townships_sheet (g ∷ gs) e (t ∷ ts) = township_sheet g e t ++ townships_sheet gs e ts

-- the sheet of the whole plant
abbrev pub plant_sheet : List Ground → Estate → List Township → List SheetRow
plant_sheet gs e ts = rows_or node.Everything e (grounds_uniform gs) (townships_sheet gs e ts)
