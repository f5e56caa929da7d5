-- What a table of locks says: who holds each node, and who has room there.
use Rattle.std.specs.{Prelude.{ℕ, ◌≡◌, ◌≢◌, ◌==◌, Bool, true, false, ◌&&◌, ◌||◌, not, List}, List.{list_any}}
use Rattle.std.specs.{Prelude.{Option, Some, None}, Ordering.{nat_cmp}, BTreeMap.{BTreeMap, get}}
use Rattle.title_land.specs.{declared.node.Node.{Node}, Nodes.{same_node, is_above}, Lands.{cover_of}}
use Rattle.title_land.specs.NodeNumbers.{node_number}
use Rattle.title_lock.specs.{declared.{modes.Mode.{Mode}, table.Table.{Table}, guards.Entry.{Entry}}, Modes.{allows, intends}}
use Rattle.title_lock.specs.{Asking.{mode_at, AreSized}, Holders.{Modes, holder_mode, has_room, idles, is_free}}

-- the holders at n, in a map by the numbers of nodes
abbrev pub holders_at : BTreeMap ℕ Modes → Node → Option Modes
holders_at m n = get nat_cmp m (node_number n)

abbrev pub mode_in : ℕ → Option Modes → Option Mode
mode_in e None = None
mode_in e (Some h) = holder_mode h e

-- the holders of each node, where there are any
abbrev pub HeldAt : Type 0
HeldAt = Node → Option Modes

-- those in a table
abbrev pub on_all : Table → HeldAt
on_all t n = holders_at t.holders n

-- the mode of examiner e at n
abbrev pub table_mode : HeldAt → ℕ → Node → Option Mode
table_mode t e n = mode_in e (t n)

-- ---- room

abbrev pub room_in : ℕ → Option Modes → Bool
room_in e None = false
room_in e (Some h) = has_room h e

-- examiner e can be given a mode at n without memory
abbrev pub table_room : HeldAt → ℕ → Node → Bool
table_room t e n = room_in e (t n)

-- where there was room at first there is room after
abbrev pub KeepsRoom : HeldAt → HeldAt → Type 0
KeepsRoom t u = (e : ℕ) (n : Node) → table_room t e n ≡ true → table_room u e n ≡ true

-- examiner e has room at each node that passes a test
abbrev pub HasRoom : HeldAt → ℕ → (Node → Bool) → Type 0
HasRoom t e asks = (n : Node) → asks n ≡ true → table_room t e n ≡ true

-- ---- what is kept and not held

abbrev pub idle_in : ℕ → Option Modes → Bool
idle_in e None = false
idle_in e (Some h) = idles h e

-- examiner e has room at n and no mode there
abbrev pub is_idle : HeldAt → ℕ → Node → Bool
is_idle t e n = idle_in e (t n)

-- nobody is idle but who was, and examiner e at nodes that pass a test
pub record IdleMore (old : HeldAt) (new : HeldAt) (e : ℕ) (asks : Node → Bool) : Type 0 where
  pub more : (f : ℕ) (n : Node) → is_idle new f n ≡ true → (is_idle old f n || (f == e && asks n)) ≡ true

-- exactly those are idle who were, but for examiner e at nodes that pass a test
pub record IdleLess (old : HeldAt) (new : HeldAt) (e : ℕ) (asks : Node → Bool) : Type 0 where
  pub less : (f : ℕ) (n : Node) → is_idle new f n ≡ (is_idle old f n && not (f == e && asks n))

-- nobody is idle but who was
pub record NoMoreIdle (old : HeldAt) (new : HeldAt) : Type 0 where
  pub same : (f : ℕ) (n : Node) → is_idle new f n ≡ true → is_idle old f n ≡ true

abbrev pub unused_in : Option Modes → Bool
unused_in None = false
unused_in (Some h) = is_free h

-- there are holders of n, where nobody holds n or has room
abbrev pub is_unused : HeldAt → Node → Bool
is_unused t n = unused_in (t n)

-- each node that has holders is one that somebody holds or has room at
pub record AllUsed (t : HeldAt) : Type 0 where
  pub each : (n : Node) → is_unused t n ≡ false

-- ---- what is held

-- an access asks for something at n for the node c of its cover
abbrev pub is_asked : Node → Node → Bool
is_asked n c = same_node n c || is_above n c

-- whoever holds n, or a node above it, holds the intention of that at each node above
abbrev pub IsRooted : HeldAt → ℕ → Node → Type 0
IsRooted t e n = (m : Node) → is_asked m n ≡ true → (k : Node) → is_above k m ≡ true → intends (table_mode t e m) (table_mode t e k) ≡ true

-- whoever has room at n, or at a node above it, has room at each node above
abbrev pub IsRoomy : HeldAt → ℕ → Node → Type 0
IsRoomy t e n = (m : Node) → is_asked m n ≡ true → table_room t e m ≡ true → (k : Node) → is_above k m ≡ true → table_room t e k ≡ true

-- whoever doesn't hold n, or a node above it, holds no node above
abbrev pub IsGone : HeldAt → ℕ → Node → Type 0
IsGone t e n = (m : Node) → is_asked m n ≡ true → table_mode t e m ≡ None → (k : Node) → is_above k m ≡ true → table_mode t e k ≡ None

-- an entry of examiner e asks for something at n
abbrev pub is_asked_by : ℕ → ℕ → Node → Entry → Bool
is_asked_by depth e n x = e == x.examiner && list_any (is_asked n) (cover_of depth x.tract)

-- the table tells the modes of the entries, whose tracts are as large as the grid, and any two examiners' stand beside each other
pub record TableIs (depth : ℕ) (entries : List Entry) (t : HeldAt) : Type 0 where
  pub apart : (e f : ℕ) → f ≢ e → (n : Node) → allows (mode_at depth entries e n) (mode_at depth entries f n) ≡ true
  pub sized : AreSized depth entries
  pub modes : (e : ℕ) (n : Node) → table_mode t e n ≡ mode_at depth entries e n
