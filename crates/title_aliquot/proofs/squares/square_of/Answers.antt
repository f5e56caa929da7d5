-- What was left to show of `square_of`.
use Rattle.std.proofs.{Common.{◌<◌, ◌∙◌, length, sym}, lemmas.Option.{IfSome_then}}
use Rattle.title_aliquot.proofs.SquareParts.{some_entry, square_stands}
use Rattle.title_aliquot.proofs.squares.square_of.Goals as goal

pub returns : goal.returns
returns c =
    let some : 0 < length c.args.entries.now = some_entry c.args.entries.now (sym c.is_empty.ensures ∙ c.if-is_empty.false) in
    record {
      square = IfSome_then c.square_from.result c.square_from.ensures.squared
          (λ w h. square_stands c.args.entries.now w c.requires.begun some h);
    }
