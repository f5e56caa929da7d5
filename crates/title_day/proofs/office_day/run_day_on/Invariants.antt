-- The office keeps the plant that its desk was opened for, and a ledger of its own.
use Rattle.title_day.proofs.office_day.run_day_on.Given as goal

abbrev pub ghosts-keep_day : goal.ghosts-keep_day
ghosts-keep_day g a = record { book = a.ledger; setting = a.desk.setting }
