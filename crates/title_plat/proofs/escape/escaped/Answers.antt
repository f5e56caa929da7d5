-- The characters that were listed are those of the text.
use Rattle.std.proofs.Common.{◌∙◌}
use Rattle.title_plat.proofs.escape.escaped.Goals as goal

pub returns : goal.returns
returns c =
    record { escaped = rw (c.as_slice.ensures.value ∙ c.in_ok-characters.ensures.characters) at c.escape_all.ensures.escaped }
