-- A square's number has its last quarter and the square around it.
use Rattle.std.proofs.Common.{◌/◌, ◌∷◌, List, sym, ap, ◌∙◌, arith}
use Rattle.title_land.specs.{declared.rectangle.Quarter.{Quarter}, Paths.{quarter_at}}
use Rattle.title_land.specs.Laws.PathNumbers.{number_of, quarters_of_number, is_path_number, path_short, path_split}
use Rattle.title_land.proofs.node.Within.split.Goals as goal

pub invariant_of-outer : goal.invariant_of-outer
invariant_of-outer c =
    let short = path_short c.self.inside.number c.args.self c.self.view_is in
    let k = path_split _ _ (number_of _ _ c.self.invariant c.self.view_is) c.if-self-lt4.false in
    is_path_number _ k.outer (omega (arith, k.shorter)) k.number_is

pub returns-clause-short : goal.returns-clause-short
returns-clause-short c = path_short c.self.inside.number c.args.self c.self.view_is

pub returns-clause-split : goal.returns-clause-split
returns-clause-split c =
    let short = path_short c.self.inside.number c.args.self c.self.view_is in
    let k = path_split _ _ (number_of _ _ c.self.invariant c.self.view_is) c.if-self-lt4.false in
    let outer = quarters_of_number (c.self.inside.number / 4) k.outer (omega (arith, k.shorter)) k.number_is in
    k.parts ∙ ap (λ (x : Quarter). x ∷ k.outer) (sym (c.numbered-which.ensures.quarter ∙ ap quarter_at c.from.ensures))
    ∙ ap (λ (x : List Quarter). c.numbered-which.result ∷ x) (sym outer)
