-- The text that the line keeps is that of the key.
use Rattle.std.proofs.Common.{◌∙◌, sym}
use Rattle.title_report.proofs.{Lines.{of_some}, Puts.{put_as, put_done}}
use Rattle.title_report.proofs.answers.put_kept_entry.Goals as goal

pub returns-clause-put : goal.returns-clause-put
returns-clause-put g c =
    let made = of_some c.text_for.result (c.if-is_none.ensures {u = tt}) c.text_for.ensures.text in
    put_as (sym (c.as_slice.ensures.value ∙ made))
    (put_done c.put.ensures.written c.put.ensures.well c.put.ensures.stopped c.put.ensures.failed)
