use Rattle.std.proofs.Common.{sym, ◌∙◌}
use Rattle.title_daybook.proofs.FirstLines.{ends_last, ends_there}
use Rattle.title_daybook.proofs.lines.line_len.Goals as goal

pub returns-in-Some : goal.returns-in-Some
returns-in-Some c = record { first = ends_there c.args.bytes.now c.in-Some.len (sym c.line_feed_at.ensures.feed ∙ c.in-Some.is) }

pub returns-in-None : goal.returns-in-None
returns-in-None c = record { first = ends_last c.args.bytes.now c.requires.some (sym c.line_feed_at.ensures.feed ∙ c.in-None.is) }
