-- What a crash may leave of a disk in memory, by the calls that it keeps. Lists of calls have the newest first.
use Rattle.std.specs.Prelude.{◌≡◌, ◌⊎◌, ℕ, ◌≤◌, List, [], ◌∷◌, ◌++◌, length}
use Rattle.title_disk.specs.{Crashes.{Torn, Cut}, declared.call.{DiskCall.{DiskCall}, KeptCall.{KeptCall}}}
use Rattle.title_disk.specs.declared.call.DiskCall.TheVariants as call

-- what a call may make of a content until the next sync
abbrev pub Leaves : DiskCall → List ℕ → List ℕ → Type 0
Leaves call.Read old new = new ≡ old
Leaves (call.Write at bytes) old new = Torn at (length bytes.items) old new
Leaves (call.Cut len) old new = Cut len old new
Leaves call.Sync old new = ⊥

-- what a crash may leave: what is there, or what the newest call makes of what a crash before it might have left
abbrev pub MayLeave : List ℕ → List KeptCall → List ℕ → Type 0
MayLeave now [] content = content ≡ now
MayLeave now (kept ∷ earlier) content = (content ≡ now)
    ⊎ ((old : List ℕ) × MayLeave kept.before.items earlier old × Leaves kept.call old content)

-- what a crash since the call of this number might have left
abbrev pub LeftSince : List ℕ → List KeptCall → ℕ → List ℕ → Type 0
LeftSince now [] number content = content ≡ now
LeftSince now (kept ∷ earlier) number content =
    MayLeave now (kept ∷ earlier) content ⊎ ((number ≤ length earlier) × LeftSince kept.before.items earlier number content)

-- what a read returned between two calls: before the first of the later ones, the oldest of them first, or now
abbrev pub content_between : List ℕ → List KeptCall → List ℕ
content_between now [] = now
content_between now (kept ∷ later) = kept.before.items

-- to the old calls, the oldest first, comes this one more, before which a read returned these bytes
pub record Notes (asked : DiskCall) (bytes : List ℕ) (old new : List KeptCall) : Type 0 where
  pub kept : KeptCall
  pub call_is : kept.call ≡ asked
  pub before_is : kept.before.items ≡ bytes
  pub calls_are : new ≡ old ++ kept ∷ []
