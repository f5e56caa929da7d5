-- What a disk in memory shows of itself.
use Rattle.std.specs.Prelude.{ℕ, Bool, List, reverse}
use Rattle.title_disk.specs.{Kept.{MayLeave, LeftSince}, declared.{call.KeptCall.{KeptCall}, torn_disk.TornDisk.{TornDisk}}}

-- the bytes that a read returns
abbrev pub bytes_of : TornDisk → List ℕ
bytes_of disk = disk.bytes.items

-- its calls, the newest first
abbrev pub calls_of : TornDisk → List KeptCall
calls_of disk = reverse disk.calls.items

-- what a crash may leave after all of its calls
abbrev pub torn_may_leave : TornDisk → List ℕ → Type 0
torn_may_leave disk = MayLeave (bytes_of disk) (calls_of disk)

-- what a crash since a call might have left
abbrev pub torn_left_since : TornDisk → ℕ → List ℕ → Type 0
torn_left_since disk = LeftSince (bytes_of disk) (calls_of disk)

-- whether a call has failed
abbrev pub torn_has_failed : TornDisk → Bool
torn_has_failed disk = disk.failed
