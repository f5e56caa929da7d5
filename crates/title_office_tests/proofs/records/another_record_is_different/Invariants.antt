use Rattle.title_office_tests.proofs.records.another_record_is_different.Given as goal

-- the office's ledger, and the plant that the test's townships make
abbrev pub ghosts-records_day : goal.ghosts-records_day
ghosts-records_day g a = record { book = a.ledger; setting = record { parties = 2; townships = a.townships.now } }
