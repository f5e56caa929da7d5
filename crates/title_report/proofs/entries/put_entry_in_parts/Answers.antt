-- The text up to the first name, the names with a comma between them, and the end.
use Rattle.std.proofs.Common.{◌∙◌, ◌∷◌, []}
use Rattle.title_page.specs.Laws.InTurn.{stopped_before}
use Rattle.title_report.proofs.{Lines.{key_parts}, Puts.{put_as, put_done, put_failed, put_then}}
use Rattle.title_report.proofs.entries.put_entry_in_parts.Goals as goal

pub returns-in_err-put : goal.returns-in_err-put
returns-in_err-put g c =
    let parts = key_parts _ _ c.args.roster.now c.args.key.now (c.as_bytes.ensures.bytes ∙ c.make_front-front.ensures.made)
    c.estates_end-end.ensures.letters in record {
      put = put_as parts (put_failed c.from_residual.ensures.0 (stopped_before _ _ c.in_err-put.ensures.stopped)
          c.in_err-put.ensures.failed);
    }

pub returns-in_err-write : goal.returns-in_err-write
returns-in_err-write g c =
    let parts = key_parts _ _ c.args.roster.now c.args.key.now (c.as_bytes.ensures.bytes ∙ c.make_front-front.ensures.made)
    c.estates_end-end.ensures.letters in record {
      put = put_as parts (put_then _ _ c.in_ok-put.ensures.written (put_failed c.from_residual-in_err-write.ensures.0
          (stopped_before _ _ c.in_err-write.ensures.put.stopped) c.in_err-write.ensures.put.failed));
    }

pub returns-in_err-put-2 : goal.returns-in_err-put-2
returns-in_err-put-2 g c =
    let parts = key_parts _ _ c.args.roster.now c.args.key.now (c.as_bytes.ensures.bytes ∙ c.make_front-front.ensures.made)
    c.estates_end-end.ensures.letters in record {
      put = put_as parts (put_then _ _ c.in_ok-put.ensures.written (put_then _ _ c.in_ok-write.ensures.put.written
          (put_failed c.from_residual-in_err-put-2.ensures.0 (stopped_before (44 ∷ []) _ c.in_err-put-2.ensures.stopped)
          c.in_err-put-2.ensures.failed)));
    }

pub returns-in_err-write-2 : goal.returns-in_err-write-2
returns-in_err-write-2 g c =
    let parts = key_parts _ _ c.args.roster.now c.args.key.now (c.as_bytes.ensures.bytes ∙ c.make_front-front.ensures.made)
    c.estates_end-end.ensures.letters in record {
      put = put_as parts (put_then _ _ c.in_ok-put.ensures.written (put_then _ _ c.in_ok-write.ensures.put.written
          (put_then (44 ∷ []) _ c.in_ok-put-2.ensures.written (put_failed c.from_residual-in_err-write-2.ensures.0
          (stopped_before _ _ c.in_err-write-2.ensures.put.stopped) c.in_err-write-2.ensures.put.failed))));
    }

pub returns : goal.returns
returns g c =
    let parts = key_parts _ _ c.args.roster.now c.args.key.now (c.as_bytes.ensures.bytes ∙ c.make_front-front.ensures.made)
    c.estates_end-end.ensures.letters in record {
      put = put_as parts (put_then _ _ c.in_ok-put.ensures.written (put_then _ _ c.in_ok-write.ensures.put.written
          (put_then (44 ∷ []) _ c.in_ok-put-2.ensures.written (put_then _ _ c.in_ok-write-2.ensures.put.written
          (put_done c.put-3.ensures.written c.put-3.ensures.well c.put-3.ensures.stopped c.put-3.ensures.failed)))));
    }
