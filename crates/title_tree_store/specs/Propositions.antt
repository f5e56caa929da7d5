-- What a store keeps are facts: each holds in one way.
use Rattle.std.{proofs.{Math.{Bool.{Bool-set}, Bridge.{le_prop}, Nat.{ℕ_set}}}, specs.Prelude.{ℕ, List, [], ◌∷◌}}
use Rattle.title_land.specs.declared.{survey.Township.{Township}, rectangle.Quarter.{Quarter}}
use Rattle.title_store.specs.Plants.{IsEachOnce}
use Rattle.title_tree.specs.{Pieces.{Disjoint}}
use Rattle.title_tree_store.specs.{declared.{lent.Lent.{Lent}, forest.{Forest.{Forest}, Parts.{Parts}}, spots.Home.{Home}}, Spots.{IsHome}}
use Rattle.title_tree_store.specs.{Forests.{AreAll}, Keeping.{Rises, IsKept, AreJoined}}
use Rattle.title_tree_store.specs.declared.forest.Parts.TheVariants as parts
use Rattle.title_tree_store.specs.declared.spots.Home.TheVariants as home

pub once_prop : (ts : List Township) → IsProp (IsEachOnce ts)
once_prop [] = hlevel Bool-set
once_prop (t ∷ ts) = hlevel (Bool-set, once_prop ts)

pub disjoint_prop : (ps : List (List Quarter)) → IsProp (Disjoint ps)
disjoint_prop [] = hlevel Bool-set
disjoint_prop (p ∷ ps) = hlevel (Bool-set, disjoint_prop ps)

pub rises_prop : (lent : List Lent) → IsProp (Rises lent)
rises_prop [] = hlevel le_prop
rises_prop (l ∷ lent) = hlevel (le_prop, rises_prop lent)

pub home_prop : (count : ℕ) (h : Home) → IsProp (IsHome count h)
home_prop count home.Everything = hlevel
home_prop count (home.Township t) = hlevel le_prop
home_prop count (home.Section n t) = hlevel le_prop

pub all_prop : (count : ℕ) (x : Parts) → IsProp (AreAll count x)
all_prop count parts.Nothing = hlevel
all_prop count (parts.One part) = hlevel
all_prop count (parts.Many many) = hlevel
all_prop count (parts.Township g) = hlevel
all_prop count (parts.Plant gs) = hlevel ℕ_set

pub kept_prop : (ts : List Township) (f : Forest) (lent : List Lent) (next : ℕ) → IsProp (IsKept ts f lent next)
kept_prop ts f lent next = hlevel (Bool-set, le_prop, ℕ_set, all_prop, disjoint_prop, rises_prop)

pub joined_prop : (ts : List Township) (f : Forest) (lent : List Lent) → IsProp (AreJoined ts f lent)
joined_prop ts f lent = hlevel Bool-set
