use Rattle.title_office_tests.proofs.endings.nothing_is_settled.Given as goal

-- the office's ledger, and the plant that the test's townships make
abbrev pub ghosts-settled_day : goal.ghosts-settled_day
ghosts-settled_day g a = record { book = a.ledger; setting = record { parties = 2; townships = a.townships.now } }
