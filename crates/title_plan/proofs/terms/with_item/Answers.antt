-- A text without an estate's letter is no item.
use Rattle.std.proofs.Common.{◌∙◌}
use Rattle.title_plan.proofs.Texts.{no_item}
use Rattle.title_plan.proofs.terms.with_item.Goals as goal

pub returns-in_err-estate : goal.returns-in_err-estate
returns-in_err-estate c = record { item = c.from_residual.ensures ∙ no_item c.args.reserve c.args.item.now c.in_err-estate.ensures.letter }
