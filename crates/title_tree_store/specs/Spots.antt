-- Where a tract lies in a store: its townships by their indices, a section counted from 0, and the squares of a section by paths.
use Rattle.std.specs.{Prelude.{ℕ, ◌+◌, ◌-◌, ◌<◌, ◌==◌, ◌&&◌, Bool, true, false, cond, List, [], ◌∷◌}, List.{flat_map}}
use Rattle.title_land.specs.{Depth.{depth}, declared.{survey.Township.{Township}, node.Node.{Node}, rectangle.Quarter.{Quarter}}}
use Rattle.title_land.specs.{declared.tract.Land.{Land}, Survey.{same_township}, Lands.{cover_of}}
use Rattle.title_tree.specs.Paths.{way}
use Rattle.title_tree_store.specs.declared.spots.{Paths.{Paths, TheVariants.{Nothing, One, Many}}, Home.{Home}}
use Rattle.title_land.specs.declared.node.Node.TheVariants as node
use Rattle.title_land.specs.declared.tract.Land.TheVariants as land
use Rattle.title_tree_store.specs.declared.spots.Home.TheVariants as home

-- the index of a township in a list
abbrev pub index_of : List Township → Township → ℕ
index_of [] t = 0
index_of (u ∷ ts) t = cond (same_township t u) 0 (index_of ts t + 1)

-- where a tract lies
abbrev pub home_in : List Township → Land → Home
home_in ts land.Everything = home.Everything
home_in ts (land.Township t) = home.Township (index_of ts t)
home_in ts (land.Part s g) = home.Section (s.number - 1) (index_of ts s.township)

-- there are such townships and sections
abbrev pub IsHome : ℕ → Home → Type 0
IsHome count home.Everything = Unit {0}
IsHome count (home.Township t) = t < count
IsHome count (home.Section n t) = (t < count) × (n < 36)

-- it is the whole plant
abbrev pub is_everything : Home → Bool
is_everything home.Everything = true
is_everything _ = false

-- it is this township
abbrev pub is_township : Home → ℕ → Bool
is_township (home.Township t) i = t == i
is_township _ i = false

-- it is a section of this township
abbrev pub is_in_township : Home → ℕ → Bool
is_in_township (home.Section n t) i = t == i
is_in_township _ i = false

-- something of this township lies in it
abbrev pub reaches : Home → ℕ → Bool
reaches home.Everything i = true
reaches (home.Township t) i = t == i
reaches (home.Section n t) i = t == i

-- the paths of a section's squares that lie there; the root's where the whole section does
abbrev pub ways_at : Home → List (List Quarter) → ℕ → ℕ → List (List Quarter)
ways_at home.Everything ps i j = [] ∷ []
ways_at (home.Township t) ps i j = cond (t == i) ([] ∷ []) []
ways_at (home.Section n t) ps i j = cond (t == i && n == j) ps []

-- the path of a node of a section
abbrev pub node_ways : Node → List (List Quarter)
node_ways (node.Part s w) = way w ∷ []
node_ways _ = []

-- the paths of a tract's squares
abbrev pub tract_ways : Land → List (List Quarter)
tract_ways x = flat_map node_ways (cover_of depth x)

-- those of them that lie in a section
abbrev pub ways_in : List Township → Land → ℕ → ℕ → List (List Quarter)
ways_in ts x = ways_at (home_in ts x) (tract_ways x)

-- paths that are kept together
abbrev pub paths_in : Paths → List (List Quarter)
paths_in Nothing = []
paths_in (One path) = path ∷ []
paths_in (Many paths) = paths.items
