-- What the opening of a plant's file gives the code.
use Rattle.std.specs.Prelude.{◌≡◌, ℕ, List, Bool, true, Ok}
use Rattle.title_disk.specs.Crashes.{Only}
use Rattle.title_journal.specs.Rest.{IsReadFrom}
use Rattle.title_daybook.specs.{Books.{standing_of}, Files.{standing_in}}
use Rattle.title_lasting.specs.{Openings.{IsNoPlant, cut_in}, Replays.{HasServed}, declared.fault.LastingFault.{LastingFault}}
use Rattle.title_lasting.specs.declared.opening.{Found.{Found}, Opened.{Opened}}
use Rattle.title_lasting.specs.declared.fault.LastingFault.TheVariants as fault

-- a file isn't opened: it is no plant, memory ran out, or the disk has failed
abbrev pub IsUnopened : List ℕ → Bool → LastingFault → Type 0
IsUnopened file disk_failed (fault.NotAPlant row) = IsNoPlant file row
IsUnopened file disk_failed fault.Disk = disk_failed ≡ true
IsUnopened file disk_failed fault.Memory = Unit {0}
IsUnopened file disk_failed _ = ⊥

-- but for a fault of the disk the file has its bytes then, on the disk
abbrev pub LeavesUnopened : (file file_after : List ℕ) → (may_leave : List ℕ → Type 0) → LastingFault → Type 0
LeavesUnopened file file_after may_leave fault.Disk = Unit {0}
LeavesUnopened file file_after may_leave _ = (file_after ≡ file) × Only file may_leave

-- what stands was read from the blocks of a file
pub record IsFoundIn (file : List ℕ) (found : Found) : Type 0 where
  pub read : IsReadFrom file found.blocks
  pub stands : standing_in file ≡ Ok (standing_of found.stands)

-- a file was opened: what stands in it is serial, and was served at a desk
pub record IsOpened (file : List ℕ) (opened : Opened) : Type 0 where
  pub stands : standing_in file ≡ Ok (standing_of opened.stands)
  pub served : HasServed opened.stands.townships.items (standing_of opened.stands).records opened.desk.value
  pub cut : opened.cut ≡ cut_in file
