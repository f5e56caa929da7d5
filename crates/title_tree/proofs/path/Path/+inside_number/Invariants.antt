use Rattle.title_tree.proofs.path.Path.+inside_number.Given as goal

abbrev pub decreases-inside_number : goal.decreases-inside_number
decreases-inside_number l = l.levels
