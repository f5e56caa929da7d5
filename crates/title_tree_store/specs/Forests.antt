-- The trees of a plant as plots, by estate.
use Rattle.std.specs.Prelude.{◌≡◌, ◌≢◌, ℕ, Bool, true, false, not, ◌&&◌, ◌||◌, ◌==◌, List, [], ◌∷◌, ◌++◌, ◌⊎◌, cond, Option, None}
use Rattle.std.specs.Prelude.{length, map}
use Rattle.std.specs.{Prelude.{All}, List.{list_any, list_all}}
use Rattle.title_land.specs.declared.rectangle.Quarter.{Quarter}
use Rattle.title_instrument.specs.declared.{parts.{Estate.{Estate, TheVariants.{S, O, M}}, Rule.{Rule}}, instrument.Instrument.{Instrument}}
use Rattle.title_instrument.specs.{declared.owners.Owners.{Owners}, Effect.{holding_effect}, Estates.{names}, Parties.{estates_of}}
use Rattle.title_tree.specs.{Changes.{after}, Plots.{Plot, value_at, is_tidy}, Parts.{piece}}
use Rattle.title_tree.specs.Pieces.{Piece, Disjoint, InOrder, Ready, StaysWithin, paths, fresh, refusal_at, split_all, swapped, taken}
use Rattle.title_tree_store.specs.declared.{forest.{Forest.{Forest}, Subtrees.{Subtrees}}, ground.Ground.{Ground}, spots.Home.{Home}}
use Rattle.title_tree_store.specs.declared.forest.{Parts.{Parts}, Written.{Written}}
use Rattle.title_tree_store.specs.Grounds.{stands, is_parted, ground_tidy, plot_in, parted_in, closable_in, Everywhere}
use Rattle.title_tree_store.specs.Grounds.{AreSplit, AreUntouched, IsTidied}
use Rattle.title_tree_store.specs.Spots.{paths_in, ways_at, is_everything, is_township, is_in_township, reaches, IsHome}
use Rattle.title_tree_store.specs.declared.forest.Parts.TheVariants as parts
use Rattle.title_tree_store.specs.declared.spots.Home.TheVariants as home

-- a fact of each estate
pub record Each (P : Estate → Type 0) : Type 0 where
  pub s : P S
  pub o : P O
  pub m : P M

-- the townships of each estate
abbrev pub grounds : Forest → Estate → List Ground
grounds f S = f.s.items
grounds f O = f.o.items
grounds f M = f.m.items

-- what stands in each section of an estate: the index of its township, and its own from 0
abbrev pub plots : Forest → Estate → ℕ → ℕ → Plot
plots f e = plot_in (grounds f e)

-- the paths at which a put wrote a section of an estate
abbrev pub put_ways : Estate → ℕ → ℕ → Written → List (List Quarter)
put_ways e i j w = cond (names w.estates e) (ways_at w.home (paths_in w.paths) i j) []

-- the paths at which a section was written since a forest was last tidied, put by put
abbrev pub written : Estate → ℕ → ℕ → Forest → List (List (List Quarter))
written e i j f = map (put_ways e i j) f.written.items

-- a put wrote something of a township
abbrev pub writes : Estate → ℕ → Written → Bool
writes e i w = names w.estates e && reaches w.home i

-- something of it was written since then
abbrev pub was_written : Estate → ℕ → Forest → Bool
was_written e i f = list_any (writes e i) f.written.items

-- the townships of an estate, joined where some puts wrote it
pub record AreTidied (e : Estate) (puts : List Written) (old new : List Ground) : Type 0 where
  pub tidied : Everywhere (length old) (λ i j. IsTidied (map (put_ways e i j) puts) (plot_in old i j) (plot_in new i j))
  pub closed : (i : ℕ) → list_any (writes e i) puts ≡ true → closable_in new i ≡ false
  pub others : (i : ℕ) → list_any (writes e i) puts ≡ false → closable_in new i ≡ closable_in old i
  pub sized : length new ≡ length old

-- no four quarters of an estate's trees, and no 36 sections, are leaves that have the same division
abbrev pub are_joined : Forest → Bool
are_joined f = list_all ground_tidy f.s.items && (list_all ground_tidy f.o.items && list_all ground_tidy f.m.items)

-- a whole section's plot as a piece of it
abbrev pub whole : Plot → Piece
whole t = record { path = []; plot = t }

-- the pieces of a section that is known
abbrev pub squares_in : Parts → List Piece
squares_in (parts.One part) = piece part ∷ []
squares_in (parts.Many many) = map piece many.items
squares_in _ = []

-- those of a section of a township that is known
abbrev pub sections_in : Parts → ℕ → List Piece
sections_in (parts.Township g) j = whole (stands g.value j) ∷ []
sections_in _ j = []

-- those of a section of a plant
abbrev pub townships_in : Parts → ℕ → ℕ → List Piece
townships_in (parts.Plant gs) i j = whole (plot_in gs.items i j) ∷ []
townships_in _ i j = []

-- the pieces of a section among parts that lie somewhere
abbrev pub parts_at : Home → Parts → ℕ → ℕ → List Piece
parts_at home.Everything x i j = townships_in x i j
parts_at (home.Township t) x i j = cond (t == i) (sections_in x j) []
parts_at (home.Section n t) x i j = cond (t == i && n == j) (squares_in x) []

-- they are parts of a section, or nothing
abbrev pub are_squares : Parts → Bool
are_squares (parts.Township g) = false
are_squares (parts.Plant gs) = false
are_squares _ = true

-- the parts of each estate
abbrev pub parts_of : Subtrees → Estate → Parts
parts_of x S = x.s
parts_of x O = x.o
parts_of x M = x.m

abbrev pub pieces : Home → Subtrees → Estate → ℕ → ℕ → List Piece
pieces h x e = parts_at h (parts_of x e)

-- there are parts
abbrev pub is_some_part : Parts → Bool
is_some_part parts.Nothing = false
is_some_part _ = true

-- parts of squares want a township whose sections have trees of their own
abbrev pub wants : Home → Parts → ℕ → Bool
wants h (parts.One part) i = is_in_township h i
wants h (parts.Many many) i = is_in_township h i
wants h _ i = false

-- after they have changed places with what stands there, a township that was so is so
abbrev pub brings : Home → Parts → ℕ → Bool
brings h (parts.Township g) i = not (is_township h i) || is_parted g.value
brings h (parts.Plant gs) i = not (is_everything h) || parted_in gs.items i
brings h _ i = true

-- there are as many townships in them as there are
abbrev pub AreAll : ℕ → Parts → Type 0
AreAll count (parts.Plant gs) = length gs.items ≡ count
AreAll count _ = Unit {0}

-- an estate's parts that changed places with what stood where they lie
pub record IsExchanged (e : Estate) (h : Home) (x y : Subtrees) (old new : Forest) : Type 0 where
  pub sized : length (grounds new e) ≡ length (grounds old e)
  pub all : AreAll (length (grounds old e)) (parts_of y e)
  pub trees : Everywhere (length (grounds old e)) (λ i j. plots new e i j ≡ swapped (pieces h x e i j) (plots old e i j))
  pub parts : Everywhere (length (grounds old e)) (λ i j. pieces h y e i j ≡ taken (pieces h x e i j) (plots old e i j))
  pub parted : (i : ℕ) → parted_in (grounds old e) i ≡ true → brings h (parts_of x e) i ≡ true → parted_in (grounds new e) i ≡ true
  pub back : (i : ℕ) → parted_in (grounds old e) i ≡ true → brings h (parts_of y e) i ≡ true
  pub wanted : (i : ℕ) → wants h (parts_of y e) i ≡ wants h (parts_of x e) i
  pub elsewhere : (i : ℕ) → (is_some_part (parts_of x e) && reaches h i) ≡ false
      → closable_in (grounds new e) i ≡ closable_in (grounds old e) i
  pub some : is_some_part (parts_of y e) ≡ is_some_part (parts_of x e)

-- the division of each estate at a path of a section
abbrev pub owners_at : (Estate → ℕ → ℕ → Plot) → ℕ → ℕ → List Quarter → Owners
owners_at ps i j c = record { s = value_at (ps S i j) c; o = value_at (ps O i j) c; m = value_at (ps M i j) c }

-- the paths, where the instrument names the estate
abbrev pub named_ways : Instrument ℕ → Estate → List (List Quarter) → List (List Quarter)
named_ways i e ps = cond (names (estates_of i) e) ps []

-- why the first leaf at the paths that refuses the instrument refuses it, where it names the estate
abbrev pub refusal_in : Instrument ℕ → Estate → List (List Quarter) → Plot → Option Rule
refusal_in i e ps t = refusal_at (holding_effect i e) (named_ways i e ps) t

-- none does, and these are the parts after it
abbrev pub IsChange : Instrument ℕ → Estate → List (List Quarter) → Plot → List Piece → Type 0
IsChange i e ps t xs = (refusal_in i e ps t ≡ None) × (xs ≡ fresh (after (holding_effect i e)) (named_ways i e ps) t)

-- each put was one of townships and sections that there are
abbrev pub AreHomes : ℕ → List Written → Type 0
AreHomes count ws = All (λ w. IsHome count w.home) ws

-- quartered down to the paths of a place, in whole or in part, in the estates that an instrument names
pub record IsQuartered (x : Instrument ℕ) (h : Home) (ps : List (List Quarter)) (old new : Forest) : Type 0 where
  pub split : Each (λ e. AreSplit (ways_at h ps) (λ i j. named_ways x e (ways_at h ps i j)) (λ i. names (estates_of x) e && reaches h i)
      (grounds old e) (grounds new e))

-- what was made of each estate that an instrument names, and the trees quartered down to all of the paths: a township of which parts
-- of squares were made has sections with trees of their own
pub record IsMade (x : Instrument ℕ) (h : Home) (ps : List (List Quarter)) (old new : Forest) (made : Subtrees) : Type 0 where
  pub change : (e : Estate) → Everywhere (length (grounds old e)) (λ i j. IsChange x e (ways_at h ps i j) (plots old e i j)
      (pieces h made e i j))
  pub split : (e : Estate) → Everywhere (length (grounds old e)) (λ i j. plots new e i j
      ≡ split_all (named_ways x e (ways_at h ps i j)) (plots old e i j))
  pub all : (e : Estate) → AreAll (length (grounds old e)) (parts_of made e)
  pub named : (e : Estate) → is_some_part (parts_of made e) ≡ true → names (estates_of x) e ≡ true
  pub some : (e : Estate) (i : ℕ) → wants h (parts_of made e) i ≡ true → ps ≢ []
  pub brings : (e : Estate) (i : ℕ) → parted_in (grounds old e) i ≡ true → brings h (parts_of made e) i ≡ true
  pub wanted : (e : Estate) (i : ℕ) → wants h (parts_of made e) i ≡ true → parted_in (grounds new e) i ≡ true

-- the paths are kept as those of the last put, for the estates that the instrument names
pub record HasNote (x : Instrument ℕ) (h : Home) (ps : List (List Quarter)) (old new : Forest) : Type 0 where
  pub last : Written
  pub pushed : new.written.items ≡ old.written.items ++ last ∷ []
  pub home : last.home ≡ h
  pub ways : paths_in last.paths ≡ ps
  pub estates : last.estates ≡ estates_of x

-- no township has changed
pub record IsLeft (old new : Forest) : Type 0 where
  pub townships : Each (λ e. AreUntouched (grounds old e) (grounds new e))
  pub noted : new.written.items ≡ old.written.items

-- they are, or nothing changed
abbrev pub IsNoted : Instrument ℕ → Home → List (List Quarter) → Forest → Forest → Type 0
IsNoted x h ps old new = HasNote x h ps old new ⊎ IsLeft old new

-- nothing is to be joined
pub record IsTidy (f : Forest) : Type 0 where
  pub tidy : (e : Estate) → Everywhere (length (grounds f e)) (λ i j. is_tidy (plots f e i j) ≡ true)
  pub closed : (e : Estate) (i : ℕ) → closable_in (grounds f e) i ≡ false

-- parts that a put made of an estate, each of which may change places with what stands where it lies
pub record IsMadeFor (put : Written) (e : Estate) (x : Parts) (gs : List Ground) : Type 0 where
  pub all : AreAll (length gs) x
  pub wanted : (i : ℕ) → wants put.home x i ≡ true → parted_in gs i ≡ true
  pub goes : Everywhere (length gs) (λ i j. Disjoint (paths (parts_at put.home x i j))
      × Ready (paths (parts_at put.home x i j)) (plot_in gs i j))
  pub own : Everywhere (length gs) (λ i j. paths (parts_at put.home x i j) ≡ put_ways e i j put)
  pub order : Everywhere (length gs) (λ i j. InOrder (paths (parts_at put.home x i j)))
  pub named : is_some_part x ≡ true → names put.estates e ≡ true

-- an instrument was put in for good: no leaf refuses it, and a section is what it would be with what was made at the paths, joined
pub record IsSettled (x : Instrument ℕ) (e : Estate) (ps : List (List Quarter)) (t u : Plot) : Type 0 where
  pub none : refusal_in x e ps t ≡ None
  pub tidied : IsTidied (named_ways x e ps ∷ []) (swapped (fresh (after (holding_effect x e)) (named_ways x e ps) t)
      (split_all (named_ways x e ps) t)) u

-- what was quartered down to the paths, in whole or in part, and joined again: the same content, and no node that is deeper
pub record IsRejoined (ps : List (List Quarter)) (t u : Plot) : Type 0 where
  pub content : (c : List Quarter) → value_at u c ≡ value_at t c
  pub within : StaysWithin ps t u
