-- A quarter before a path is the last digit of its number.
use Rattle.std.proofs.Common.{◌∷◌, ◌+◌, ◌*◌, arith}
use Rattle.title_land.specs.Laws.PathNumbers.{quarter_below}
use Rattle.title_tree.proofs.PathNumbers.{number_of, quarters_of_number, is_path}
use Rattle.title_tree.proofs.path.Path.inside.Goals as goal

pub overflow_add-result : goal.overflow_add-result
overflow_add-result c = let k = quarter_below c.args.quarter in omega arith

pub invariant_of-result : goal.invariant_of-result
invariant_of-result c =
    let n = number_of _ _ c.self.invariant c.self.view_is in is_path _ (c.args.quarter ∷ c.args.self) (omega arith)

pub returns : goal.returns
returns c =
    let n = number_of _ _ c.self.invariant c.self.view_is in
    record { inside = quarters_of_number (c.self.inside.number * 4 + c.from.result) (c.args.quarter ∷ c.args.self) (omega arith) }
