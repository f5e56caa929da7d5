-- What an estate has of the townships of a plant: of each one tree that stands in all of its sections, or one for each section.
use Rattle.std.specs.{Prelude.{◌≡◌, ℕ, ◌<◌, Bool, true, false, ◌&&◌, not, List, [], ◌∷◌, ◌++◌, length, get_or, map}, List.{list_all}}
use Rattle.std.specs.Prelude.{Option, Some, None}
use Rattle.title_share.specs.Division.{Division, all_to}
use Rattle.title_land.specs.declared.rectangle.Quarter.{Quarter}
use Rattle.title_tree.specs.{declared.change.Fault.{Fault}, Plots.{Plot, Same, same_leaf, uniform, is_tidy, value_at, fits}, Trees.{plot}}
use Rattle.title_tree.specs.{Pieces.{both_have, Refines, StaysWithin, StaysElsewhere}, Joining.{JoinedBut}}
use Rattle.title_tree.specs.declared.change.Fault.TheVariants as fault
use Rattle.title_tree_store.specs.declared.{ground.Ground.{Ground, TheVariants.{Whole, Parted}}, sections.Sections.{Sections}}

-- where there is no township or section
abbrev pub nothing : Plot
nothing = Same (all_to 0)

-- what stands in each section of a township that is parted, from the first
abbrev pub section_plots : Sections → List Plot
section_plots x = map plot x.trees.items

-- what stands in a section of a township, counted from 0
abbrev pub stands : Ground → ℕ → Plot
stands (Whole tree) j = plot tree
stands (Parted x) j = get_or (section_plots x) j nothing

-- each section has a tree of its own
abbrev pub is_parted : Ground → Bool
is_parted (Whole tree) = false
is_parted (Parted x) = true

-- the one division, where all have it
abbrev pub all_have : List (Option Division) → Option Division
all_have [] = None
all_have (x ∷ []) = x
all_have (x ∷ y ∷ xs) = both_have x (all_have (y ∷ xs))

-- that of plots
abbrev pub uniform_all : List Plot → Option Division
uniform_all ts = all_have (map uniform ts)

-- that of a township's cells
abbrev pub ground_uniform : Ground → Option Division
ground_uniform (Whole tree) = uniform (plot tree)
ground_uniform (Parted x) = uniform_all (section_plots x)

-- that of all townships
abbrev pub grounds_uniform : List Ground → Option Division
grounds_uniform gs = all_have (map ground_uniform gs)

-- all are leaves that have one division
abbrev pub are_one : List Plot → Bool
are_one [] = false
are_one (t ∷ ts) = list_all (same_leaf t) ts

-- its sections have trees of their own, and these are leaves of one division
abbrev pub is_closable : Ground → Bool
is_closable (Whole tree) = false
is_closable (Parted x) = are_one (section_plots x)

-- no four quarters, and no 36 sections, are leaves that have the same division
abbrev pub ground_tidy : Ground → Bool
ground_tidy (Whole tree) = is_tidy (plot tree)
ground_tidy (Parted x) = list_all is_tidy (section_plots x) && not (are_one (section_plots x))

-- a township's content and its nodes are as they were
pub record IsUntouched (old new : Ground) : Type 0 where
  pub stays : (j : ℕ) → j < 36 → stands new j ≡ stands old j
  pub closable : is_closable new ≡ is_closable old

-- what was joined where some puts wrote it: the same content, no node deeper, and nothing to join but where later puts wrote
pub record IsTidied (puts : List (List (List Quarter))) (t u : Plot) : Type 0 where
  pub content : (c : List Quarter) → value_at u c ≡ value_at t c
  pub within : (n : ℕ) → fits n t ≡ true → fits n u ≡ true
  pub joined : (later : List (List (List Quarter))) → JoinedBut (puts ++ later) t → JoinedBut later u

-- ---- the townships of a plant

-- what stands in a section, by the index of its township
abbrev pub plot_in : List Ground → ℕ → ℕ → Plot
plot_in gs i j = get_or (map (λ (g : Ground). stands g j) gs) i nothing

-- the one division of a township's cells
abbrev pub uniform_in : List Ground → ℕ → Option Division
uniform_in gs i = get_or (map ground_uniform gs) i None

-- whether the sections of a township have trees of their own
abbrev pub parted_in : List Ground → ℕ → Bool
parted_in gs i = get_or (map is_parted gs) i false

-- whether a township could be one tree
abbrev pub closable_in : List Ground → ℕ → Bool
closable_in gs i = get_or (map is_closable gs) i false

-- a fact of each section of so many townships
abbrev pub Everywhere : ℕ → (ℕ → ℕ → Type 0) → Type 0
Everywhere count P = (i j : ℕ) → i < count → j < 36 → P i j

-- a fact of some section of them
abbrev pub Somewhere : ℕ → (ℕ → ℕ → Type 0) → Type 0
Somewhere count P = (i : ℕ) × (j : ℕ) × (i < count) × (j < 36) × P i j

-- a refusal is told with the reason of some section; that memory is short tells nothing
abbrev pub TellsSomewhere : {R : Type 0} → Fault R → ℕ → (ℕ → ℕ → Option R) → Type 0
TellsSomewhere fault.Memory count why = Unit {0}
TellsSomewhere (fault.Refused reason) count why = Somewhere count (λ i j. why i j ≡ Some reason)

-- townships of which sections are quartered down to paths, in whole or in part
pub record AreSplit (ways named : ℕ → ℕ → List (List Quarter)) (reached : ℕ → Bool) (old new : List Ground) : Type 0 where
  pub sized : length new ≡ length old
  pub refines : Everywhere (length old) (λ i j. Refines (plot_in old i j) (plot_in new i j))
  pub within : Everywhere (length old) (λ i j. StaysWithin (ways i j) (plot_in old i j) (plot_in new i j))
  pub elsewhere : Everywhere (length old) (λ i j. StaysElsewhere (named i j) (plot_in old i j) (plot_in new i j))
  pub kept : (i : ℕ) → parted_in old i ≡ true → parted_in new i ≡ true
  pub closed : (i : ℕ) → reached i ≡ false → closable_in new i ≡ closable_in old i

-- townships of which nothing is quartered and no cell has changed
pub record AreUntouched (old new : List Ground) : Type 0 where
  pub stays : Everywhere (length old) (λ i j. plot_in new i j ≡ plot_in old i j)
  pub closable : (i : ℕ) → closable_in new i ≡ closable_in old i
