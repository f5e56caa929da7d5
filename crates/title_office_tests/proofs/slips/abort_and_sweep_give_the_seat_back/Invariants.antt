use Rattle.title_office_tests.proofs.slips.abort_and_sweep_give_the_seat_back.Given as goal

-- the office's ledger, and the plant that the test's townships make
abbrev pub ghosts-abort_day : goal.ghosts-abort_day
ghosts-abort_day g a = record { book = a.ledger; setting = record { parties = 2; townships = a.townships.now } }
