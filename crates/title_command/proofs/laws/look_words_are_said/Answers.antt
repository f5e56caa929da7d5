-- The law, by its lemmas.
use Rattle.title_command.proofs.LookWords.{look_alone, look_by_words, look_of_run}
use Rattle.title_command.proofs.laws.look_words_are_said.Goals as goal

pub returns : goal.returns
returns c = record { looks = look_by_words; alone = look_alone; run = look_of_run }
