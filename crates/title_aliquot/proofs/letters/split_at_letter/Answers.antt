-- What was left to show of `split_at_letter`.
use Rattle.std.{proofs.Common.{◌∙◌, ap}, specs.Str.{chars}}
use Rattle.title_aliquot.{specs.Letters.{letters}, proofs.TextWalks.{cut_text}}
use Rattle.title_aliquot.proofs.letters.split_at_letter.Goals as goal

pub split_at-requires : goal.split_at-requires
split_at-requires c = (cut_text c.args.text.now c.args.letter c.offset_of.result c.utf8.text c.offset_of.ensures.offset).boundary

pub returns-clause-before : goal.returns-clause-before
returns-clause-before c =
    ap (λ bs. letters (chars bs)) c.split_at.ensures.front
    ∙ (cut_text c.args.text.now c.args.letter c.offset_of.result c.utf8.text c.offset_of.ensures.offset).before

pub returns-clause-after : goal.returns-clause-after
returns-clause-after c =
    ap (λ bs. letters (chars bs)) c.split_at.ensures.back
    ∙ (cut_text c.args.text.now c.args.letter c.offset_of.result c.utf8.text c.offset_of.ensures.offset).after
