-- The office keeps the plant that the list is run in.
use Rattle.title_refusals.proofs.at_office.run_once.Given as goal

abbrev pub ghosts-run_in_office : goal.ghosts-run_in_office
ghosts-run_in_office g a = record { book = a.ledger; setting = record { parties = a.parties; townships = a.townships.now } }
