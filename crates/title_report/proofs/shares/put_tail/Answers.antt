-- The comma, the number, and the text behind it.
use Rattle.std.proofs.Common.{◌∙◌, ◌∷◌, []}
use Rattle.title_page.specs.Laws.InTurn.{stopped_before}
use Rattle.title_report.proofs.{Halvings.{tail_of}, Puts.{put_as, put_done, put_failed, put_then}}
use Rattle.title_report.proofs.shares.put_tail.Goals as goal

pub returns-in_err-put : goal.returns-in_err-put
returns-in_err-put g c =
    let tail = tail_of c.args.units c.halvings-halved.result c.as_bytes-above.result.now c.bottom_bytes-bottom.result.now
    c.ranges.units.fits c.halvings-halved.ensures.text (c.as_bytes-above.ensures.value ∙ c.format.ensures.text)
    c.bottom_bytes-bottom.ensures.bottom in record {
      put = put_as tail (put_failed c.from_residual.ensures.0 (stopped_before (44 ∷ []) _ c.in_err-put.ensures.stopped)
          c.in_err-put.ensures.failed);
    }

pub returns-in_err-put-2 : goal.returns-in_err-put-2
returns-in_err-put-2 g c =
    let tail = tail_of c.args.units c.halvings-halved.result c.as_bytes-above.result.now c.bottom_bytes-bottom.result.now
    c.ranges.units.fits c.halvings-halved.ensures.text (c.as_bytes-above.ensures.value ∙ c.format.ensures.text)
    c.bottom_bytes-bottom.ensures.bottom in record {
      put = put_as tail (put_then (44 ∷ []) _ c.in_ok-put.ensures.written (put_failed c.from_residual-in_err-put-2.ensures.0
          (stopped_before _ _ c.in_err-put-2.ensures.stopped) c.in_err-put-2.ensures.failed));
    }

pub returns : goal.returns
returns g c =
    let tail = tail_of c.args.units c.halvings-halved.result c.as_bytes-above.result.now c.bottom_bytes-bottom.result.now
    c.ranges.units.fits c.halvings-halved.ensures.text (c.as_bytes-above.ensures.value ∙ c.format.ensures.text)
    c.bottom_bytes-bottom.ensures.bottom in record {
      put = put_as tail (put_then (44 ∷ []) _ c.in_ok-put.ensures.written (put_then _ _ c.in_ok-put-2.ensures.written
          (put_done c.put-3.ensures.written c.put-3.ensures.well c.put-3.ensures.stopped c.put-3.ensures.failed)));
    }
