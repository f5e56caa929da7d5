-- What a replay of what stood comes to. Lists of records have the newest first.
use Rattle.std.specs.{Prelude.{◌≡◌, ◌≤◌, List, length}, List.{AllByRecursion}}
use Rattle.title_land.specs.{Depth.{depth}, declared.survey.Township.{Township}}
use Rattle.title_chain.specs.{declared.record.Record.{Record}, Alone.{IsSerial}}
use Rattle.title_trace.specs.Due.{most_steps}
use Rattle.title_desk.specs.Told.{Books}
use Rattle.title_standing.specs.{Standing.{replayed}, StandingLaws.{widest}}
use Rattle.title_lasting.specs.{Refusals.{IsFirstRefused}, declared.replaying.Replayed.{Replayed}}
use Rattle.title_lasting.specs.declared.replaying.Replayed.TheVariants as replayed_as

-- no record has more steps than a transaction may have
abbrev pub AreShort : List Record → Type 0
AreShort records = AllByRecursion (λ r. length r.steps ≤ most_steps) records

-- a desk has served these records, and nothing else, under these townships; they are serial
pub record HasServed (townships : List Township) (records : List Record) (desk : Books) : Type 0 where
  pub setting : desk.setting ≡ widest townships
  pub trace : desk.trace ≡ replayed records
  pub serial : IsSerial depth townships records

-- records were served again under these townships, or the one in this place is the first that can't be
abbrev pub IsReplayed : List Township → List Record → Replayed → Type 0
IsReplayed townships records (replayed_as.Stands desk) = HasServed townships records desk.value
IsReplayed townships records (replayed_as.Refused place) = IsFirstRefused townships records place
