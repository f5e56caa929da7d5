-- Each reason has its row.
use Rattle.title_report.proofs.replies.put_denial.Goals as goal

pub returns-in-AlreadyOpen : goal.returns-in-AlreadyOpen
returns-in-AlreadyOpen g c = record { put = rw c.in-AlreadyOpen.is c.put_word_row-in-AlreadyOpen.ensures.put }

pub returns-in-NoSuchTownship : goal.returns-in-NoSuchTownship
returns-in-NoSuchTownship g c = record { put = rw c.in-NoSuchTownship.is c.put_word_row-in-NoSuchTownship.ensures.put }

pub returns-in-Conflict : goal.returns-in-Conflict
returns-in-Conflict g c = record { put = rw (c.in-Conflict.is, ← c.from-in-Conflict.ensures) c.put_number_row-in-Conflict.ensures.put }
