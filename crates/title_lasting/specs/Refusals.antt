-- The first record of many that can't stand. Lists of records have the newest first.
use Rattle.std.specs.Prelude.{◌≤◌, ◌-◌, ℕ, List, length, reverse, take}
use Rattle.title_land.specs.{Depth.{depth}, declared.survey.Township.{Township}}
use Rattle.title_chain.specs.{declared.record.Record.{Record}, Alone.{IsSerial}}

-- the first records, as many as this
abbrev pub oldest : ℕ → List Record → List Record
oldest n records = reverse (take n (reverse records))

-- the record in this place, from 1, is the first that isn't serial behind those before it: one of its posts isn't posted
pub record IsFirstRefused (townships : List Township) (records : List Record) (place : ℕ) : Type 0 where
  pub some : 1 ≤ place
  pub within : place ≤ length records
  pub before : IsSerial depth townships (oldest (place - 1) records)
  pub refused : IsSerial depth townships (oldest place records) → ⊥
