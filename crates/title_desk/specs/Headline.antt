-- The headline: what is true of a desk after any list of requests. Lists of calls and records here have the newest first.
use Rattle.std.specs.Prelude.{◌≡◌, ℕ, true, false, List, ◌∷◌}
use Rattle.title_land.specs.{Depth.{depth}, declared.survey.{Cell.{Cell}, Township.{Township}}}
use Rattle.title_share.specs.{Rows.{total, whole_units}, Division.{rows_of}}
use Rattle.title_instrument.specs.{declared.parts.Estate.{Estate}, Owners.{holding_of}}
use Rattle.title_store.specs.Plants.{Plant}
use Rattle.title_chain.specs.{declared.record.Record.{Record}, Alone.{after_steps, plant_after, IsSerial}, Overlaps.{record_of}}
use Rattle.title_trace.specs.{declared.call.Call.{Call}, Trace.{is_open, open_steps, committed}, Due.{Setting, IsDue}}
use Rattle.title_desk.specs.Images.{posted_at}

-- the shares of each estate in each cell sum to the whole
abbrev pub SumToOne : Plant → Type 0
SumToOne content = (c : Cell) (estate : Estate) → total (rows_of (holding_of estate (content c))) ≡ whole_units

-- in a cell where an open examiner's step was posted stands what the committed plant followed by its open steps has there
abbrev pub ShowsOpenPosts : List Township → List Call → Plant → Type 0
ShowsOpenPosts townships trace content = (e : ℕ) (c : Cell) → posted_at townships c (open_steps trace e) ≡ true →
    content c ≡ after_steps depth townships (plant_after depth townships (committed trace)) (open_steps trace e) c

-- in every other cell stands the committed plant
abbrev pub ShowsCommitted : List Township → List Call → Plant → Type 0
ShowsCommitted townships trace content = (c : Cell) → ((e : ℕ) → posted_at townships c (open_steps trace e) ≡ false) →
    content c ≡ plant_after depth townships (committed trace) c

-- For every interleaving of begins, reads, posts, commits and aborts by any number of examiners, running the committed
-- transactions alone, in commit order, gives their answers, and the plant whenever none is open; aborted ones leave no trace,
-- and each estate's shares in each cell sum to one. The parts: each reply was the due one; the records are the committed
-- transactions; they are serial; so they are with one open transaction as the last; the plant whenever none is open; the plant
-- while some are; the shares.
pub record Headline (setting : Setting) (trace : List Call) (content : Plant) (records : List Record) : Type 0 where
  pub each_reply_is_due : IsDue depth setting trace
  pub records_are_committed : records ≡ committed trace
  pub committed_are_serial : IsSerial depth setting.townships (committed trace)
  pub serial_with_one_open_last : (e : ℕ) → IsSerial depth setting.townships (record_of e (open_steps trace e) ∷ committed trace)
  pub plant_when_none_is_open : ((e : ℕ) → is_open e trace ≡ false) → (c : Cell) →
      content c ≡ plant_after depth setting.townships (committed trace) c
  pub open_posts_are_shown : ShowsOpenPosts setting.townships trace content
  pub rest_is_committed : ShowsCommitted setting.townships trace content
  pub shares_sum_to_one : SumToOne content
