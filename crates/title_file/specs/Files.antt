-- What a plant's file shows of itself.
use Rattle.std.specs.Prelude.{ℕ, ◌-◌, Bool, List, length, take}
use Rattle.title_file.specs.{Calls.{Call, seen, name_of, names_of, MayLeave, LeftSince, has_failed}, declared.drawer.Drawer.{Drawer}}
use Rattle.title_file.specs.declared.holding.Hold.{Hold}
use Rattle.title_file.specs.declared.{plant_file.PlantFile.{PlantFile}, shared_file.SharedFile.{SharedFile}}

-- the calls on it, the newest first
abbrev pub calls_of : PlantFile → List Call
calls_of file = file.record.calls

-- the name by which it was opened
abbrev pub file_name : PlantFile → List ℕ
file_name file = name_of (calls_of file)

-- the bytes that a read returns
abbrev pub file_seen : PlantFile → List ℕ
file_seen file = seen (calls_of file)

-- what a crash may leave after all of its calls
abbrev pub file_may_leave : PlantFile → List ℕ → Type 0
file_may_leave file = MayLeave (calls_of file)

-- what a crash since a call might have left
abbrev pub file_left_since : PlantFile → ℕ → List ℕ → Type 0
file_left_since file = LeftSince (calls_of file)

-- whether a call has failed
abbrev pub file_has_failed : PlantFile → Bool
file_has_failed file = has_failed (calls_of file)

-- ---- where it is shared

-- the name by which it was opened
abbrev pub shared_name : SharedFile → List ℕ
shared_name file = name_of file.record.calls

-- the bytes that were read of it
abbrev pub shared_seen : SharedFile → List ℕ
shared_seen file = seen file.record.calls

-- whether a call has failed
abbrev pub shared_has_failed : SharedFile → Bool
shared_has_failed file = file.failed

-- how it is held
abbrev pub hold_of : SharedFile → Hold
hold_of file = file.held.hold

-- ---- where it lies

-- the first row of new files, with its line feed
abbrev pub first_row_of : Drawer → List ℕ
first_row_of drawer = take (length drawer.fresh.now - 1) drawer.fresh.now

-- the names that it was asked for, the newest first
abbrev pub asked_of : Drawer → List (List ℕ)
asked_of drawer = names_of drawer.record.calls

-- whether the file that was opened last had bytes that are kept beside
abbrev pub keeps_of : Drawer → Bool
keeps_of drawer = drawer.has_kept
