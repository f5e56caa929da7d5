-- Digits stand without quotes.
use Rattle.std.proofs.Common.{◌∙◌}
use Rattle.title_report.proofs.{Plain.{number_field}, Puts.{put_as, put_done}}
use Rattle.title_report.proofs.nodes.put_number.Goals as goal

pub returns : goal.returns
returns g c = record {
  put = put_as (number_field c.args.number c.as_bytes.result.now c.ranges.number.fits (c.as_bytes.ensures.value ∙ c.format.ensures.text))
      (put_done c.put.ensures.written c.put.ensures.well c.put.ensures.stopped c.put.ensures.failed);
}
