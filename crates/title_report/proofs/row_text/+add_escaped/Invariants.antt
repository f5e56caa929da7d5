-- Behind a quote stand fewer bytes.
use Rattle.std.proofs.Common.{length}
use Rattle.title_report.proofs.row_text.+add_escaped.Given as goal

abbrev pub decreases-add_escaped : goal.decreases-add_escaped
decreases-add_escaped l = length l.field.now
