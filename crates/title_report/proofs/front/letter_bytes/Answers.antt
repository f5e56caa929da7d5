-- Each estate has one letter.
use Rattle.std.proofs.Common.{◌∙◌, ℕ, List, ap, length}
use Rattle.title_report.proofs.front.letter_bytes.Goals as goal

pub returns-clause-one : goal.returns-clause-one
returns-clause-one c = ap (λ (x : List ℕ). length x) (c.as_bytes.ensures.value ∙ c.letter.ensures.text)
