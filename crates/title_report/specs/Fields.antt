-- What stands in the rows of a report, as text.
use Rattle.std.specs.{Prelude.{ℕ, List}, Fmt.{decimal}}
use Rattle.title_land.specs.Texts.{node_text}
use Rattle.title_report.specs.declared.field.ReportField.{ReportField}
use Rattle.title_report.specs.declared.field.ReportField.TheVariants as field

-- a word or a name as it is, a number in decimal, a node by its canonical text
abbrev pub text_of : ReportField → List ℕ
text_of (field.Text t) = t.now
text_of (field.Number n) = decimal n
text_of (field.Node n) = node_text n
