use Rattle.title_office_tests.proofs.turns.workers_overlap.Given as goal

-- the office's ledger, and the plant that the test's townships make
abbrev pub ghosts-turns_day : goal.ghosts-turns_day
ghosts-turns_day g a = record { book = a.ledger; setting = record { parties = 2; townships = a.townships.now } }
