-- Parts as pieces.
use Rattle.title_tree.specs.{declared.part.Part.{Part}, Pieces.{Piece}, Trees.{plot}}

-- a part's tree, as a plot, at its path
abbrev pub piece : Part → Piece
piece part = record { path = part.path; plot = plot part.tree }
