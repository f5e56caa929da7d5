-- What an access asks at each node, what an examiner holds there, and what is granted by modes alone (Gray, Lorie,
-- Putzolu, Traiger, Granularity of Locks and Degrees of Consistency in a Shared Data Base, 1976). The depth is how often
-- a section is quartered.
use Rattle.std.specs.Prelude.{ℕ, ◌≡◌, ◌≢◌, ◌↔◌, ◌==◌, Bool, true, false, if◌then◌else◌, List, [], ◌∷◌, Option, Some, None, is_some, All}
use Rattle.title_land.specs.{declared.{node.Node.{Node}, tract.Land.{Land}}, Nodes.{same_node, is_above}, Lands.{cover_of, IsLand}}
use Rattle.title_lock.specs.{declared.{modes.Mode.{Mode, TheVariants.{Is, Ix, S, X}}, guards.Entry.{Entry}}}
use Rattle.title_lock.specs.Modes.{bound, allows}
use Rattle.title_lock.specs.Overlaps.{is_post, against, without}

-- what is asked at a node of the cover: S by a read, X by a post
abbrev pub own_mode : Bool → Mode
own_mode post = if post then X else S

-- what is asked at each node above: IS by a read, IX by a post
abbrev pub above_mode : Bool → Mode
above_mode post = if post then Ix else Is

-- what is asked at n for one node c of the cover
abbrev pub asked_for : Bool → Node → Node → Option Mode
asked_for post c n = if same_node n c then Some (own_mode post) else (if is_above n c then Some (above_mode post) else None)

-- what an access asks at n: the bound over its cover
abbrev pub asked : Bool → List Node → Node → Option Mode
asked post [] n = None
asked post (c ∷ cover) n = bound (asked_for post c n) (asked post cover n)

-- the mode of examiner e at n: the bound of all that its entries ask there
abbrev pub mode_at : ℕ → List Entry → ℕ → Node → Option Mode
mode_at depth [] e n = None
mode_at depth (x ∷ older) e n =
    bound (if e == x.examiner then asked (is_post x.access) (cover_of depth x.tract) n else None) (mode_at depth older e n)

-- an access of examiner e is granted by modes: at each node that it asks for, the bound of the examiner's mode and the
-- new one may stand beside every other examiner's
abbrev pub GrantedByModes : ℕ → List Entry → ℕ → Land → Bool → Type 0
GrantedByModes depth entries e land post = (n : Node) → is_some (asked post (cover_of depth land) n) ≡ true → (f : ℕ) → f ≢ e →
    allows (bound (mode_at depth entries e n) (asked post (cover_of depth land) n)) (mode_at depth entries f n) ≡ true

-- every entry was so granted when it came
abbrev pub AllGranted : ℕ → List Entry → Type 0
AllGranted depth [] = Unit {0}
AllGranted depth (x ∷ older) = AllGranted depth older × GrantedByModes depth older x.examiner x.tract (is_post x.access)

-- each entry's set of cells is as large as the grid of its section, which every tract's type says of it
abbrev pub AreSized : ℕ → List Entry → Type 0
AreSized depth entries = All (λ x. IsLand depth x.tract) entries

-- an entry is granted by modes at every node exactly where no other examiner's entry overlaps it, given that every
-- entry there was itself so granted, and that all their sets are as large as the grid
abbrev pub ModesDecideOverlap : ℕ → Type 0
ModesDecideOverlap depth = (entries : List Entry) → AreSized depth entries → AllGranted depth entries →
    (e : ℕ) (land : Land) (post : Bool) → IsLand depth land →
    GrantedByModes depth entries e land post ↔ ((f : ℕ) → f ≢ e → against land post f entries ≡ false)

-- what is left when an examiner gives its locks back was granted entry by entry, too
abbrev pub LeftAreGranted : ℕ → Type 0
LeftAreGranted depth = (e : ℕ) (entries : List Entry) → AllGranted depth entries → AllGranted depth (without e entries)
