-- What is kept of records is serial where they are, calls that serve records commit them, and what was committed can be served again.
-- Lists of records and of calls have the newest first.
use Rattle.std.specs.{Prelude.{◌≡◌, ◌≤◌, ℕ, List, map, length}, List.{AllByRecursion}}
use Rattle.title_land.specs.declared.{survey.{Cell.{Cell}, Township.{Township}}, tract.Land.{Land}}
use Rattle.title_chain.specs.{declared.record.Record.{Record}, Alone.{most_parties, plant_after, IsSerial}, Chains.{record_entries}}
use Rattle.title_trace.specs.{declared.call.Call.{Call}, Trace.{committed}, Due.{most_steps, IsDue, Setting}}
use Rattle.title_desk.specs.Singles.{IsIdle}
use Rattle.title_standing.specs.Standing.{kept, replayed}

-- what is kept of serial records is serial; it leaves the plant that they leave, and each land has the same entries with the same
-- places
abbrev pub KeptAreSerial : Type 0
KeptAreSerial =
    (depth : ℕ) (townships : List Township) (records : List Record) → IsSerial depth townships records →
    IsSerial depth townships (map kept records)
    × ((c : Cell) → plant_after depth townships (map kept records) c ≡ plant_after depth townships records c)
    × ((land : Land) → record_entries land (map kept records) ≡ record_entries land records)

-- the calls that serve records commit just these, and nobody is open after them
abbrev pub ReplayedAreCommitted : Type 0
ReplayedAreCommitted = (records : List Record) → (committed (replayed records) ≡ records) × IsIdle (replayed records)

-- a plant of these townships that may have the most parties
abbrev pub widest : List Township → Setting
widest townships = record { parties = most_parties; townships = townships }

-- there the calls that serve serial records are due, if no record has more steps than a transaction may have
abbrev pub SerialAreServed : Type 0
SerialAreServed =
    (depth : ℕ) (townships : List Township) (records : List Record) → IsSerial depth townships records →
    AllByRecursion (λ r. length r.steps ≤ most_steps) records → IsDue depth (widest townships) (replayed records)

-- and so are those that serve what is kept of the committed records of any due trace
abbrev pub CommittedAreServed : Type 0
CommittedAreServed =
    (depth : ℕ) (setting : Setting) → setting.parties ≤ most_parties → (trace : List Call) → IsDue depth setting trace →
    IsDue depth (widest setting.townships) (replayed (map kept (committed trace)))
