-- What locks show: the entries, and the access that there is room for.
use Rattle.std.specs.{Prelude.{ℕ, ◌≡◌, ◌==◌, List, [], ◌∷◌, Bool, true, false, if◌then◌else◌, Option, Some, None, All}, List.{list_any}}
use Rattle.title_land.specs.{declared.node.Node.{Node}, Lands.{cover_of, IsLand}}
use Rattle.title_lock.specs.{declared.{guards.Entry.{Entry}, table.Table.{Table}}, Overlaps.{is_post, Stands}, Asking.{AreSized}}
use Rattle.title_lock.specs.declared.node_locks.Layout.{Layout, TheVariants.{Alone, Listed, Spread}}
use Rattle.title_lock.specs.{Standing.{StandFree}, Tables.{on_all, is_asked, is_asked_by, HasRoom, is_idle, TableIs, AllUsed}}

-- the entries, the newest first, and the one that there is room for, if there is one
pub record Locks : Type 0 where
  pub entries : List Entry
  pub prepared : Option Entry

-- where an examiner's access is prepared, it stands before the entries
abbrev pub granted : Option ℕ → List Entry → List Entry
granted None es = es
granted (Some e) [] = []
granted (Some e) (x ∷ es) = es

abbrev pub waiting : Option ℕ → List Entry → Option Entry
waiting None es = None
waiting (Some e) [] = None
waiting (Some e) (x ∷ es) = Some x

-- nobody is in the way of entry x, and there is room for it
pub record IsReady (depth : ℕ) (e : ℕ) (x : Entry) (es : List Entry) (t : Table) : Type 0 where
  pub own : x.examiner ≡ e
  pub wide : IsLand depth x.tract
  pub free : Stands es x.examiner x.tract (is_post x.access) None
  pub room : HasRoom (on_all t) x.examiner (λ n. list_any (is_asked n) (cover_of depth x.tract))

-- the table tells the modes of the entries, and an access that is prepared can be granted
abbrev pub AreKept : ℕ → Option ℕ → List Entry → Table → Type 0
AreKept depth None es t = TableIs depth es (on_all t)
AreKept depth (Some e) [] t = None ≡ Some e
AreKept depth (Some e) (x ∷ es) t = TableIs depth es (on_all t) × IsReady depth e x es t

-- examiner f waits at n: the entry that waits is its own, and asks for something there
abbrev pub waits_at : ℕ → Option Entry → ℕ → Node → Bool
waits_at depth None f n = false
waits_at depth (Some x) f n = is_asked_by depth f n x

-- nothing is kept of a node or an examiner but what is held and what waits
pub record IsLean (depth : ℕ) (waits : Option Entry) (t : Table) : Type 0 where
  pub idle : (f : ℕ) (n : Node) → is_idle (on_all t) f n ≡ true → waits_at depth waits f n ≡ true
  pub used : AllUsed (on_all t)

-- locks by node: the table is that of the entries, there is room for what waits, and nothing else is kept
pub record AreLocks (depth : ℕ) (prepared : Option ℕ) (book : List Entry) (t : Table) : Type 0 where
  pub kept : AreKept depth prepared book t
  pub lean : IsLean depth (waiting prepared book) t

-- an entry that is prepared is one that nobody is in the way of, and there is room for it
abbrev pub IsRoomFor : ℕ → List Entry → Option Entry → Bool → Type 0
IsRoomFor depth es None room = Unit {0}
IsRoomFor depth es (Some x) room = IsLand depth x.tract × Stands es x.examiner x.tract (is_post x.access) None × (room ≡ true)

-- the entries of a list stand without overlap, and one that is prepared can be added
pub record AreRows (depth : ℕ) (es : List Entry) (prepared : Option Entry) (room : Bool) : Type 0 where
  pub free : StandFree es
  pub sized : AreSized depth es
  pub ready : IsRoomFor depth es prepared room

-- ---- accesses listed, or spread over the nodes

-- the access that waits, where it is examiner e's
abbrev pub own_waiting : ℕ → Option Entry → Option Entry
own_waiting e None = None
own_waiting e (Some x) = if x.examiner == e then Some x else None

-- the list shows, or the locks by node
abbrev pub shown : Layout → Locks → Locks → Locks
shown (Alone e) listed spread = record { entries = listed.entries; prepared = own_waiting e listed.prepared }
shown Listed listed spread = listed
shown Spread listed spread = spread

-- every entry is examiner e's
abbrev pub AreOwn : ℕ → List Entry → Type 0
AreOwn e es = All (λ x. x.examiner ≡ e) es

-- the entries stand in the list or in the locks by node, and where one examiner is alone those in the list are all its own
abbrev pub AreInOne : Layout → List Entry → List Entry → Type 0
AreInOne (Alone e) listed spread = AreOwn e listed × (spread ≡ [])
AreInOne Listed listed spread = spread ≡ []
AreInOne Spread listed spread = listed ≡ []
