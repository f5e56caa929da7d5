-- What was left to show of `each_text_is_answered`.
use Rattle.title_aliquot.specs.Laws.Total.{each_text}
use Rattle.title_aliquot.proofs.laws.each_text_is_answered.Goals as goal

pub returns : goal.returns
returns c = record { law = each_text }
