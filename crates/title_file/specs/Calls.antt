-- The calls on a file since it was opened, and what they say of it. Lists of calls have the newest first.
use Rattle.std.specs.Prelude.{◌≡◌, ◌⊎◌, ℕ, ◌+◌, ◌≤◌, Bool, true, false, not, List, [], ◌∷◌, ◌++◌, length, take, drop}
use Rattle.title_disk.specs.Crashes.{Torn, Cut}

-- a call, and whether the system has answered that it is done
pub data Call : Type 0 where
  -- the file of this name was asked for
  asked : List ℕ → Call
  -- the file of this name had these bytes, all of them on the disk
  opened : List ℕ → List ℕ → Call
  -- these bytes, at this offset
  written : ℕ → List ℕ → Bool → Call
  -- to this length
  cut : ℕ → Bool → Call
  synced : Bool → Call
  -- these bytes were put into a file beside
  kept : List ℕ → Bool → Call
  -- a read that wasn't answered
  unread : Call

-- What a read returns after a call. After one that isn't done nobody reads.
abbrev pub after : Call → List ℕ → List ℕ
after (asked path) old = old
after (opened path bytes) old = bytes
after (written at bytes true) old = take at old ++ bytes ++ drop (at + length bytes) old
after (written at bytes false) old = old
after (cut len true) old = take len old
after (cut len false) old = old
after (synced done) old = old
after (kept bytes done) old = old
after unread old = old

-- what a read returns after these calls
abbrev pub seen : List Call → List ℕ
seen [] = []
seen (call ∷ earlier) = after call (seen earlier)

-- the name by which the file was opened last
abbrev pub name_of : List Call → List ℕ
name_of [] = []
name_of (opened path bytes ∷ earlier) = path
name_of (call ∷ earlier) = name_of earlier

-- the names that were asked for, the newest first
abbrev pub names_of : List Call → List (List ℕ)
names_of [] = []
names_of (asked path ∷ earlier) = path ∷ names_of earlier
names_of (call ∷ earlier) = names_of earlier

-- what a call may make of a content until the next sync, whether it is done or not
abbrev pub Leaves : Call → List ℕ → List ℕ → Type 0
Leaves (asked path) old new = new ≡ old
Leaves (opened path bytes) old new = ⊥
Leaves (written at bytes done) old new = Torn at (length bytes) old new
Leaves (cut len done) old new = Cut len old new
Leaves (synced true) old new = ⊥
Leaves (synced false) old new = new ≡ old
Leaves (kept bytes done) old new = new ≡ old
Leaves unread old new = new ≡ old

-- what a crash may leave: what is there, or what the newest call makes of what a crash before it might have left
abbrev pub MayLeave : List Call → List ℕ → Type 0
MayLeave [] content = content ≡ []
MayLeave (call ∷ earlier) content = (content ≡ after call (seen earlier))
    ⊎ ((old : List ℕ) × MayLeave earlier old × Leaves call old content)

-- what a crash since the call of this number might have left
abbrev pub LeftSince : List Call → ℕ → List ℕ → Type 0
LeftSince [] number content = content ≡ []
LeftSince (call ∷ earlier) number content =
    MayLeave (call ∷ earlier) content ⊎ ((number ≤ length earlier) × LeftSince earlier number content)

-- whether a call isn't done
abbrev pub fails : Call → Bool
fails (asked path) = false
fails (opened path bytes) = false
fails (written at bytes done) = not done
fails (cut len done) = not done
fails (synced done) = not done
fails (kept bytes done) = false
fails unread = true

-- whether the newest of these calls has failed
abbrev pub has_failed : List Call → Bool
has_failed [] = false
has_failed (call ∷ earlier) = fails call
