use Rattle.title_office_tests.proofs.settling.each_reason_comes.Given as goal

-- the office's ledger, and the plant that the test's townships make
abbrev pub ghosts-settle_day : goal.ghosts-settle_day
ghosts-settle_day g a = record { book = a.ledger; setting = record { parties = 2; townships = a.townships.now } }
