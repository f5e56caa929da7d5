-- The law, by its lemmas.
use Rattle.title_command.proofs.OfficeWords.{no_number, no_tries, one_more, twice, unknown}
use Rattle.title_command.proofs.laws.other_words_are_refused.Goals as goal

pub returns : goal.returns
returns c = record { more = one_more; none = no_tries; no_number = no_number; twice = twice; unknown = unknown }
