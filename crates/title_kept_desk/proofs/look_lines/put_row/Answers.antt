-- Whether the row is another, its text says.
use Rattle.title_kept_desk.proofs.look_lines.put_row.Goals as goal

pub returns : goal.returns
returns c = record { put = rw c.in_ok-other.ensures.other at c.put_text.ensures.put }
