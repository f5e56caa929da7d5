use Rattle.title_office_tests.proofs.answers.sheets_and_chains_are_answered.Given as goal

-- the office's ledger, and the plant that the test's townships make
abbrev pub ghosts-answers_day : goal.ghosts-answers_day
ghosts-answers_day g a = record { book = a.ledger; setting = record { parties = 2; townships = a.townships.now } }
