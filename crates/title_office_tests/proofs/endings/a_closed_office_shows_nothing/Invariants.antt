use Rattle.title_office_tests.proofs.endings.a_closed_office_shows_nothing.Given as goal

-- the office's ledger, and the plant that the test's townships make
abbrev pub ghosts-closed_day : goal.ghosts-closed_day
ghosts-closed_day g a = record { book = a.ledger; setting = record { parties = 2; townships = a.townships.now } }
