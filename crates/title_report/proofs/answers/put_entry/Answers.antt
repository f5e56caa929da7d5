-- The text with which all rows begin, and that of the key.
use Rattle.std.proofs.Common.{◌∙◌, arith}
use Rattle.title_page.specs.Laws.InTurn.{stopped_before}
use Rattle.title_report.{specs.EntryTexts.{entry_text}, proofs.{Lines.{entry_by_key}, Puts.{put_as, put_failed, put_then}}}
use Rattle.title_report.proofs.answers.put_entry.Goals as goal

pub returns-in_err-put-clause-put : goal.returns-in_err-put-clause-put
returns-in_err-put-clause-put g c =
    put_as (entry_by_key c.as_bytes.result.now c.key_of-key.result c.args.roster.now c.args.examiner c.args.entry.now
    (c.as_bytes.ensures.bytes ∙ c.requires.start) c.key_of-key.ensures.key (omega (arith, c.ranges.examiner.fits))
    c.number_is_plain.ensures.plain c.number_is_plain-2.ensures.plain)
    (put_failed c.from_residual.ensures.0 (stopped_before c.as_bytes.result.now (entry_text c.args.roster.now c.key_of-key.result)
    c.in_err-put.ensures.stopped) c.in_err-put.ensures.failed)

pub returns-clause-put : goal.returns-clause-put
returns-clause-put g c = put_as (entry_by_key c.as_bytes.result.now c.key_of-key.result c.args.roster.now c.args.examiner c.args.entry.now
    (c.as_bytes.ensures.bytes ∙ c.requires.start) c.key_of-key.ensures.key (omega (arith, c.ranges.examiner.fits))
    c.number_is_plain.ensures.plain c.number_is_plain-2.ensures.plain)
    (put_then c.as_bytes.result.now _ c.in_ok-put.ensures.written c.put_entry_text.ensures.put)
