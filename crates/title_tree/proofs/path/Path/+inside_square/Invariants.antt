use Rattle.std.proofs.Common.{length}
use Rattle.title_tree.proofs.path.Path.+inside_square.Given as goal

abbrev pub decreases-inside_square : goal.decreases-inside_square
decreases-inside_square l = length l.square
