-- What was left to show of `of_both`.
use Rattle.std.{proofs.Common.{◌∙◌, ◌++◌, List, ℕ, sym, ap}, specs.Str.{chars}}
use Rattle.title_aliquot.{specs.Letters.{letters}, proofs.TextWalks.{letters_alone}}
use Rattle.title_aliquot.proofs.reader.Reader.of_both.Goals as goal

pub returns-in-None : goal.returns-in-None
returns-in-None c =
    let none = ap (λ (z : List ℕ). z ++ letters (chars c.args.more.now)) (sym c.in-None.ensures.split) in
    record { both = letters_alone c.split_letter-in-None.result _ c.split_letter-in-None.ensures.split ∙ none }
