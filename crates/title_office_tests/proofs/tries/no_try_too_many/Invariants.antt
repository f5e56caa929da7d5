use Rattle.title_office_tests.proofs.tries.no_try_too_many.Given as goal

-- the office's ledger, and the plant that the test's townships make
abbrev pub ghosts-tries_day : goal.ghosts-tries_day
ghosts-tries_day g a = record { book = a.ledger; setting = record { parties = 2; townships = a.townships.now } }
