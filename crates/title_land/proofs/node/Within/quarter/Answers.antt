-- A quarter's number is four times the square's, and the quarter's own.
use Rattle.std.proofs.Common.{◌≤◌, ◌∷◌, length, arith}
use Rattle.title_land.specs.{Depth.{depth}, Laws.PathNumbers.{number_of, quarters_of_number, is_path_number, path_fits}}
use Rattle.title_land.proofs.node.Within.quarter.Goals as goal

pub overflow_mul-result : goal.overflow_mul-result
overflow_mul-result c =
    let n = number_of _ _ c.self.invariant c.self.view_is in
    let wide : length (c.args.which ∷ c.args.self) ≤ depth = omega (arith, c.requires.wide) in
    omega (arith, path_fits (c.args.which ∷ c.args.self) wide)

pub overflow_add-result : goal.overflow_add-result
overflow_add-result c =
    let n = number_of _ _ c.self.invariant c.self.view_is in
    let wide : length (c.args.which ∷ c.args.self) ≤ depth = omega (arith, c.requires.wide) in
    omega (arith, path_fits (c.args.which ∷ c.args.self) wide)

pub invariant_of-result : goal.invariant_of-result
invariant_of-result c =
    let n = number_of _ _ c.self.invariant c.self.view_is in
    let wide : length (c.args.which ∷ c.args.self) ≤ depth = omega (arith, c.requires.wide) in
    is_path_number _ (c.args.which ∷ c.args.self) wide (omega arith)

pub returns : goal.returns
returns c =
    let n = number_of _ _ c.self.invariant c.self.view_is in
    let wide : length (c.args.which ∷ c.args.self) ≤ depth = omega (arith, c.requires.wide) in
    record { quarter = quarters_of_number _ (c.args.which ∷ c.args.self) wide (omega arith) }
