-- What the trees of a plant hold, cell by cell.
use Rattle.std.proofs.Common.{◌≡◌, refl, subst, ℕ, ◌-◌, ◌<◌, Bool, true, false, ◌&&◌, cond, List, length}
use Rattle.title_share.specs.Division.{Division}
use Rattle.title_land.specs.{Depth.{depth}, declared.{survey.{Township.{Township}, Cell.{Cell}}, rectangle.Quarter.{Quarter}}}
use Rattle.title_land.specs.{declared.tract.Land.{Land}, Lands.{has, is_plant_cell}}
use Rattle.title_instrument.specs.{declared.{parts.Estate.{Estate, TheVariants.{S, O, M}}, owners.Owners.{Owners}}, Owners.{opening_owners}}
use Rattle.title_store.specs.Plants.{is_cell_of}
use Rattle.title_tree.specs.{CellWays.{cell_way}, Plots.{Plot, value_at}}
use Rattle.title_tree_store.specs.{Grounds.{Everywhere}, Spots.{index_of}, Forests.{Each}, Keeping.{content_of}}
use Rattle.title_tree_store.proofs.CellPaths.{index_below, section_below, plant_parts}

-- a fact of each estate
pub each : {P : Estate → Type 0} → Each P → (e : Estate) → P e
each h S = h.s
each h O = h.o
each h M = h.m

pub for_each : {P : Estate → Type 0} → ((e : Estate) → P e) → Each P
for_each h = record { s = h S; o = h O; m = h M }

-- a fact of each section, of another count that is the same
pub everywhere : {n m : ℕ} {P : ℕ → ℕ → Type 0} → n ≡ m → Everywhere n P → Everywhere m P
everywhere {P} e h = subst (λ (k : ℕ). Everywhere k P) e h

-- where a cell lies: the index of its township, that of its section, and its path
abbrev pub in_township : List Township → Cell → ℕ
in_township ts c = index_of ts c.section.township

abbrev pub in_section : Cell → ℕ
in_section c = c.section.number - 1

abbrev pub in_square : Cell → List Quarter
in_square c = cell_way depth c.row c.column

-- there is such a township and such a section
pub cell_below : (ts : List Township) (c : Cell) → is_plant_cell depth ts c ≡ true → (in_township ts c < length ts) × (in_section c < 36)
cell_below ts c plant = (index_below ts c.section.township (plant_parts ts c plant).1, section_below c.section)

-- a fact of each section, of the one that has a cell
pub at_cell : {P : ℕ → ℕ → Type 0} (ts : List Township) (c : Cell) → Everywhere (length ts) P → is_plant_cell depth ts c ≡ true
    → P (in_township ts c) (in_section c)
at_cell ts c h plant = let at = cell_below ts c plant in h (in_township ts c) (in_section c) at.0 at.1

-- the owners of a cell from what it has of each estate
abbrev pub owners : (Estate → Division) → Owners
owners f = record { s = f S; o = f O; m = f M }

pub owners_same : (f g : Estate → Division) → ((e : Estate) → f e ≡ g e) → owners f ≡ owners g
owners_same f g h = λ i. record { s = h S i; o = h O i; m = h M i }

owners_cond : (b : Bool) (f g h : Estate → Division) → ((e : Estate) → f e ≡ cond b (g e) (h e)) → owners f ≡ cond b (owners g) (owners h)
owners_cond true f g h k = owners_same f g k
owners_cond false f g h k = owners_same f h k

-- a choice whose first may be another where it is taken
pub cond_same : {A : Type 0} (b : Bool) (x y z : A) → (b ≡ true → x ≡ y) → cond b x z ≡ cond b y z
cond_same true x y z h = h refl
cond_same false x y z h = refl

-- what a cell of the plant has of an estate
abbrev pub now : List Township → (Estate → ℕ → ℕ → Plot) → Cell → Estate → Division
now ts ps c e = value_at (ps e (in_township ts c) (in_section c)) (in_square c)

-- where each estate has the same at each path of a section, the plant is the same
pub content_agrees : (ts : List Township) (ps qs : Estate → ℕ → ℕ → Plot)
    → ((e : Estate) → Everywhere (length ts) (λ i j. (p : List Quarter) → value_at (qs e i j) p ≡ value_at (ps e i j) p)) → (c : Cell)
    → content_of ts qs c ≡ content_of ts ps c
content_agrees ts ps qs h c = cond_same (is_plant_cell depth ts c) _ _ opening_owners (λ plant.
    owners_same (now ts qs c) (now ts ps c) (λ e. at_cell ts c (h e) plant (in_square c)))

-- a tract whose cells' holdings change by a rule, and no others
pub content_changes : (ts : List Township) (x : Land) (ps qs : Estate → ℕ → ℕ → Plot) (w : Cell → Estate → Division)
    → ((c : Cell) → is_plant_cell depth ts c ≡ true → (e : Estate) → now ts qs c e ≡ cond (has x c) (w c e) (now ts ps c e)) → (c : Cell)
    → content_of ts qs c ≡ cond (is_cell_of depth ts x c) (owners (w c)) (content_of ts ps c)
content_changes ts x ps qs w h c =
    both (is_plant_cell depth ts c) (has x c) (λ plant. owners_cond (has x c) (now ts qs c) (w c) (now ts ps c) (h c plant))
  where
    both : (b a : Bool) → (b ≡ true → owners (now ts qs c) ≡ cond a (owners (w c)) (owners (now ts ps c)))
        → cond b (owners (now ts qs c)) opening_owners ≡ cond (a && b) (owners (w c)) (cond b (owners (now ts ps c)) opening_owners)
    both true true k = k refl
    both true false k = k refl
    both false true k = refl
    both false false k = refl
