-- The holders of one node: the mode of each, who has room for one, and how many have each mode.
use Rattle.std.specs.Prelude.{ℕ, ◌≡◌, ◌<◌, ◌^◌, ◌==◌, nat_le, Bool, true, false, ◌&&◌, ◌||◌, not, if◌then◌else◌, Option, Some, None}
use Rattle.std.specs.{Prelude.{is_some, List, ◌∷◌, length}, Ordering.{nat_cmp}, Map.{lookup}, BTreeMap.{is_at}}
use Rattle.title_lock.specs.declared.{modes.Mode.{Mode, TheVariants.{Is, Ix, S, Six, X}}, counts.Counts.{Counts}}
use Rattle.title_lock.specs.{Modes.{in_row, compat, allows}, Counts.{IsCount}}

-- the slots among the holders of a node, by examiners, with the mode of each that holds the node
abbrev pub Modes : Type 0
Modes = List (ℕ × Option Mode)

abbrev pub mode_of_slot : Option (Option Mode) → Option Mode
mode_of_slot None = None
mode_of_slot (Some held) = held

-- the mode of examiner e
abbrev pub holder_mode : Modes → ℕ → Option Mode
holder_mode h e = mode_of_slot (lookup (is_at (nat_cmp e)) h)

-- examiner e can be given a mode without memory
abbrev pub has_room : Modes → ℕ → Bool
has_room h e = is_some (lookup (is_at (nat_cmp e)) h)

-- examiner e has room and doesn't hold the node
abbrev pub idles : Modes → ℕ → Bool
idles h e = has_room h e && not (is_some (holder_mode h e))

-- nobody holds the node, or has room
abbrev pub is_free : Modes → Bool
is_free h = length h == 0

-- what is held doesn't let mode m stand beside it
abbrev pub clashes : Mode → Option Mode → Bool
clashes m held = not (allows (Some m) held)

-- ---- counts

abbrev pub same_mode : Mode → Mode → Bool
same_mode Is = in_row true false false false false
same_mode Ix = in_row false true false false false
same_mode S = in_row false false true false false
same_mode Six = in_row false false false true false
same_mode X = in_row false false false false true

abbrev pub has_mode : Option Mode → Mode → Bool
has_mode None m = false
has_mode (Some a) m = same_mode m a

-- how many of those with mode m one examiner is, by what it holds
abbrev pub own_part : Option Mode → Mode → ℕ
own_part held m = if has_mode held m then 1 else 0

abbrev pub count_in : Counts → Mode → ℕ
count_in c = in_row c.is c.ix c.s c.six c.x

-- mode m stands beside the one wanted, or nobody has it but who holds this
abbrev pub leaves : Counts → Option Mode → Mode → Mode → Bool
leaves c own wanted m = compat wanted m || nat_le (count_in c m) (own_part own m)

-- by the counts less its own mode nobody is in the way of who holds this
abbrev pub is_clear : Counts → Option Mode → Mode → Bool
is_clear c own wanted =
    leaves c own wanted Is && (leaves c own wanted Ix && (leaves c own wanted S && (leaves c own wanted Six && leaves c own wanted X)))

-- the counts are those of the holders, whose numbers are of 32 bits
pub record AreCounted (counts : Counts) (h : Modes) : Type 0 where
  pub few : (e : ℕ) → is_some (holder_mode h e) ≡ true → e < 2 ^ 32
  pub each : (m : Mode) → IsCount (holder_mode h) m (count_in counts m)

-- ---- the first slot beside the others

-- the slots of a node's holders, the first before the others
abbrev pub listed : Option (ℕ × Option Mode) → Modes → Modes
listed None h = h
listed (Some p) h = p ∷ h

-- who is first has no slot among the others
abbrev pub IsApart : Option (ℕ × Option Mode) → Modes → Type 0
IsApart None h = Unit {0}
IsApart (Some p) h = has_room h p.0 ≡ false

-- the first, where it is another examiner than e in the way of mode m
abbrev pub first_way : Option (ℕ × Option Mode) → ℕ → Mode → Option ℕ
first_way None e m = None
first_way (Some p) e m = if not (p.0 == e) && clashes m p.1 then Some p.0 else None
