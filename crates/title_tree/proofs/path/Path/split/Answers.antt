-- A path's number has its outermost quarter and the path from there.
use Rattle.std.proofs.Common.{◌/◌, ◌∷◌, List, sym, ap, ◌∙◌}
use Rattle.title_land.specs.{declared.rectangle.Quarter.{Quarter}, Laws.PathNumbers.{path_split}}
use Rattle.title_tree.proofs.PathNumbers.{number_of, quarters_of_number, is_path}
use Rattle.title_tree.proofs.path.Path.split.Goals as goal

pub invariant_of-rest : goal.invariant_of-rest
invariant_of-rest c =
    let k = path_split _ _ (number_of _ _ c.self.invariant c.self.view_is) c.if-self-lt4.false in is_path _ k.outer k.number_is

pub returns : goal.returns
returns c =
    let k = path_split _ _ (number_of _ _ c.self.invariant c.self.view_is) c.if-self-lt4.false in
    record {
      split = k.parts ∙ ap (λ (x : Quarter). x ∷ k.outer) (sym c.numbered-first.ensures.quarter)
          ∙ ap (λ (x : List Quarter). c.numbered-first.result ∷ x)
          (sym (quarters_of_number (c.self.inside.number / 4) k.outer k.number_is));
    }
