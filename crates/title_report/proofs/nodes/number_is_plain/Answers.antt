-- Digits call for no quotes.
use Rattle.title_report.proofs.Plain.{plain_field, plain_number}
use Rattle.title_report.proofs.nodes.number_is_plain.Goals as goal

pub returns : goal.returns
returns c = record { plain = plain_field (plain_number c.args.number c.ranges.number.fits) }
