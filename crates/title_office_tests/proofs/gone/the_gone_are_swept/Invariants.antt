use Rattle.title_office_tests.proofs.gone.the_gone_are_swept.Given as goal

-- the office's ledger, and the plant that the test's townships make
abbrev pub ghosts-gone_day : goal.ghosts-gone_day
ghosts-gone_day g a = record { book = a.ledger; setting = record { parties = 2; townships = a.townships.now } }
