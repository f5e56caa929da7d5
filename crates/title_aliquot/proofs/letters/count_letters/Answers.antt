-- What was left to show of `count_letters`.
use Rattle.std.{proofs.{Common.{◌∙◌, sym, ap, not, rules, tests}, iter.TextItems.{spells}}, specs.Str.{chars, Iter.{chars_rest}}}
use Rattle.std.proofs.lemmas.{Iterator.Consumers.{YieldsList-from_filter, count_from_yields_List}, Str.{Chars-gives, encodes-chars}}
use Rattle.title_aliquot.{specs.Letters.{passed_over}, proofs.TextWalks.{count_letters-filter}}
use Rattle.title_aliquot.proofs.letters.count_letters.Goals as goal

pub returns : goal.returns
returns c =
    let rest = encodes-chars c.args.text.now c.utf8.text ∙ sym c.chars.ensures.rest ∙ ap chars_rest (sym c.filter.ensures.source) in
    let count = count_from_yields_List {v = λ x. x} c.filter.result c.count.result c.count.ensures.ran
    (YieldsList-from_filter {steps = spells} _ (λ x. not (passed_over x))
    (record { runs = Chars-gives (chars c.args.text.now) c.filter.result.iter rest })
    c.filter.ensures.closure (λ x r q k. search (rules, tests))) in
    record { count = count ∙ count_letters-filter (chars c.args.text.now) }
