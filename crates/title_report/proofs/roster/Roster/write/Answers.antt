-- The name's bytes, judged.
use Rattle.std.proofs.Common.{List, ℕ, ap, sym}
use Rattle.csv.specs.Writing.{field_text}
use Rattle.title_page.specs.Rows.{row_writer}
use Rattle.title_report.proofs.Puts.{put_as, put_done}
use Rattle.title_report.proofs.roster.Roster.write.Goals as goal

pub returns : goal.returns
returns g c = record {
  put = put_as (ap (λ (name : List ℕ). field_text row_writer name) (sym c.bytes-name.ensures.name))
      (put_done c.judged_field.ensures.written c.judged_field.ensures.well c.judged_field.ensures.stopped c.judged_field.ensures.failed);
}
