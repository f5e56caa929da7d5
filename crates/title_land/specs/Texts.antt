-- The canonical texts of townships, sections, quarters and nodes.
use Rattle.std.specs.{Prelude.{ℕ, cond, List, [], ◌∷◌, ◌++◌, codes}, Fmt.{decimal}}
use Rattle.title_land.specs.declared.{survey.{Township.{Township}, Section.{Section}}, rectangle.Quarter.{Quarter}, node.Node.{Node}}
use Rattle.title_land.specs.declared.rectangle.Quarter.TheVariants.{Northeast, Northwest, Southwest, Southeast}
use Rattle.title_land.specs.declared.node.Node.TheVariants as node

-- a township: its number with N or S, its range number with E or W, as `T3N R2W`
abbrev pub township_text : Township → List ℕ
township_text t =
    codes "T" ++ decimal t.number ++ cond t.north (codes "N") (codes "S")
    ++ codes " R" ++ decimal t.range ++ cond t.east (codes "E") (codes "W")

-- a section: its township and its number, as `T3N R2W sec 5`
abbrev pub section_text : Section → List ℕ
section_text s = township_text s.township ++ codes " sec " ++ decimal s.number

-- a quarter, with its mark
abbrev pub quarter_text : Quarter → List ℕ
quarter_text Northeast = codes "NE1/4"
quarter_text Northwest = codes "NW1/4"
quarter_text Southwest = codes "SW1/4"
quarter_text Southeast = codes "SE1/4"

-- quarters one after another
abbrev pub quarters_text : List Quarter → List ℕ
quarters_text [] = []
quarters_text (q ∷ quarters) = quarter_text q ++ quarters_text quarters

-- what a square's quarters, the innermost first, add to its section's text: nothing, or a space and the quarters
abbrev pub path_text : List Quarter → List ℕ
path_text [] = []
path_text (q ∷ quarters) = codes " " ++ quarters_text (q ∷ quarters)

-- a node: `everything`, a township, or a section with its quarters, as `T3N R2W sec 5 NE1/4SW1/4`
abbrev pub node_text : Node → List ℕ
node_text node.Everything = codes "everything"
node_text (node.Township t) = township_text t
node_text (node.Part s w) = section_text s ++ path_text w
