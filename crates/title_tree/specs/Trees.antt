-- Trees as plots.
use Rattle.std.specs.Arc.{arc_value}
use Rattle.title_tree.specs.{declared.tree.Tree.{Tree, TheVariants.{Leaf, Quarters'}}, Plots.{Plot, Same, Four}}

-- what a tree holds, without where its nodes lie in memory
abbrev pub plot : Tree → Plot
plot (Leaf held) = Same (arc_value held)
plot (Quarters' p a b c d) = Four (plot a) (plot b) (plot c) (plot d)
