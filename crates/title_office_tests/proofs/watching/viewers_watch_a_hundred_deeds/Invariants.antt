use Rattle.title_office_tests.proofs.watching.viewers_watch_a_hundred_deeds.Given as goal

-- the office's ledger, and the plant that the test's townships make
abbrev pub ghosts-watching_day : goal.ghosts-watching_day
ghosts-watching_day g a = record { book = a.ledger; setting = record { parties = 2; townships = a.townships.now } }
