-- The law, by its lemmas.
use Rattle.title_command.proofs.DeskWord.{by_word, on_plant, with_more}
use Rattle.title_command.proofs.laws.desk_word_is_said.Goals as goal

pub returns : goal.returns
returns c = record { alone = by_word; plant = on_plant; more = with_more }
