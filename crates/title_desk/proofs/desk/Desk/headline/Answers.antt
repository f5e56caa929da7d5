-- Each part is said by a call of the desk, or follows from what they say.
use Rattle.std.proofs.{Common.{ap}, lemmas.Bool.{and_parts, eqb-true}}
use Rattle.title_share.specs.Division.{rows_divide}
use Rattle.title_instrument.specs.Owners.{holding_of}
use Rattle.title_desk.specs.Images.{posted_at}
use Rattle.title_desk.proofs.desk.Desk.headline.Goals as goal

pub returns : goal.returns
returns g c =
    let due = c.is_due.ensures.due in
    record {
      headline = record {
        each_reply_is_due = due;
        records_are_committed = c.records.ensures.records;
        committed_are_serial = c.is_serial.ensures.committed_records;
        serial_with_one_open_last = c.is_serial.ensures.open_last;
        plant_when_none_is_open = λ shut cell. c.store.ensures.rest cell
            (λ e. ap (posted_at c.args.self.now.setting.townships cell) (c.idle_have_no_steps.ensures.none _ _ e due (shut e)));
        open_posts_are_shown = c.store.ensures.posted;
        rest_is_committed = c.store.ensures.rest;
        shares_sum_to_one = λ cell estate. eqb-true _ _ (and_parts _ _
            (rows_divide (holding_of estate (g.S.Store.content c.store.result.now cell)))).1;
      };
    }
