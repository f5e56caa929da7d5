-- Each reply has its rows.
use Rattle.title_report.proofs.replies.put_reply_by.Goals as goal

pub returns-in-Committed-clause-put : goal.returns-in-Committed-clause-put
returns-in-Committed-clause-put g c = rw c.in-Committed.is c.put_number_row.ensures.put

pub returns-in-Denied-clause-put : goal.returns-in-Denied-clause-put
returns-in-Denied-clause-put g c = rw c.in-Denied.is c.put_denial.ensures.put
