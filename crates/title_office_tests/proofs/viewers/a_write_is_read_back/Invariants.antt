use Rattle.title_office_tests.proofs.viewers.a_write_is_read_back.Given as goal

-- the office's ledger, and the plant that the test's townships make
abbrev pub ghosts-viewers_day : goal.ghosts-viewers_day
ghosts-viewers_day g a = record { book = a.ledger; setting = record { parties = 2; townships = a.townships.now } }
