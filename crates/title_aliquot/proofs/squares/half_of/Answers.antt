-- What was left to show of `half_of`.
use Rattle.std.proofs.{Common.{◌∙◌, ◌<◌, length, ap, arith}, lemmas.Bool.Decides.{nat_tests}}
use Rattle.title_land.specs.{Depth.{depth}, declared.rectangle.Step.{Step}}
use Rattle.title_aliquot.proofs.SquareParts.{half_stands}
use Rattle.title_aliquot.specs.declared.syntax.Entry.TheVariants as entry
use Rattle.title_aliquot.proofs.squares.half_of.Goals as goal

pub returns : goal.returns
returns c =
    let half = rw c.in-Step-Half.is at c.in-Step-Half.field-0-is in
    let wide : length c.in_ok-within.within < depth = grind (arith, nat_tests) in
    record {
      half = half_stands c.args.entries.now _ c.in-Step-Half.which c.in_ok-within.within c.requires.begun (omega arith)
          (c.in-Step-Half.is ∙ ap (λ (s : Step). entry.Step s) half) c.in_ok-within.ensures.squared wide;
    }
