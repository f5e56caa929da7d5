-- One township of a plant, or one section, and all the others.
use Rattle.std.proofs.Common.{◌≡◌, ◌≢◌, ◌∙◌, ap, refl, sym, subst, ⊎_elim, ℕ, zero, suc, ◌<◌, arith, Bool, true, false, ◌&&◌, cond}
use Rattle.std.proofs.{Common.{List, [], ◌∷◌, ◌++◌, length, map, get_or, set, Option}, lemmas.List.{get_or-map}}
use Rattle.std.specs.{Prelude.{◌==◌, None}, Option.{option_or}}
use Rattle.std.proofs.lemmas.Bool.{cases_Bool, cond-true, and_from, eqb-true, eqb-false, eq-eqb}
use Rattle.title_tree.specs.{declared.change.Fault.{Fault}, Faults.{Tells}, Plots.{Plot}, Pieces.{Piece, Disjoint, InOrder, Ready, paths}}
use Rattle.title_tree_store.specs.{declared.{ground.Ground.{Ground}, spots.Home.{Home}, forest.Parts.{Parts}}, Spots.{IsHome}}
use Rattle.title_land.specs.declared.rectangle.Quarter.{Quarter}
use Rattle.title_tree.specs.Laws.Adding.{stays_refines, stays_within, stays_elsewhere}
use Rattle.title_tree_store.specs.Grounds.{nothing, stands, is_parted, is_closable, plot_in, closable_in, AreSplit, Everywhere}
use Rattle.title_tree_store.specs.Grounds.{TellsSomewhere, AreUntouched, IsUntouched}
use Rattle.title_tree_store.proofs.Steps.{Stays}
use Rattle.title_tree_store.{specs.Forests.{parts_at, squares_in}, proofs.GroundLaws.{read_at, set_at, set_other}}
use Rattle.title_tree.specs.declared.change.Fault.TheVariants as fault
use Rattle.title_tree_store.specs.declared.spots.Home.TheVariants as home

-- a fact of the one township and of all others, by the test
pub at_township : (t : ℕ) (P : Bool → ℕ → Type 0) → P true t → ((i : ℕ) → (t ≡ i → ⊥) → P false i) → (i : ℕ) → P (t == i) i
at_township t P here there i = ⊎_elim (λ h. subst (λ (b : Bool). P b i) (sym h) (subst (P true) (eqb-true t i h) here))
    (λ h. subst (λ (b : Bool). P b i) (sym h) (there i (eqb-false t i h)))
    (cases_Bool (t == i))

-- one choice within another
nested : {A : Type 0} (a b : Bool) (x y : A) → cond a (cond b x y) y ≡ cond (a && b) x y
nested true b x y = refl
nested false b x y = refl

-- another township in the place of one
module _ (gs : List Ground) (t : ℕ) (old new : Ground) (below : t < length gs) (at : old ≡ get_or gs t old) where
  pub was_here : (j : ℕ) → plot_in gs t j ≡ stands old j
  was_here j = read_at (λ (g : Ground). stands g j) gs t old nothing below at

  -- a relation of what stands in each section before and after
  pub in_township : {A : Type 0} (R : List A → Plot → Plot → Type 0) (xs : ℕ → List A)
      → ((j : ℕ) → j < 36 → R (xs j) (stands old j) (stands new j)) → ((u : Plot) → R [] u u)
      → Everywhere (length gs) (λ i j. R (cond (t == i) (xs j) []) (plot_in gs i j) (plot_in (set gs t new) i j))
  in_township R xs here there i j _ within =
      at_township t (λ (b : Bool) (i : ℕ). R (cond b (xs j) []) (plot_in gs i j) (plot_in (set gs t new) i j))
      (rw (was_here j, set_at (λ (g : Ground). stands g j) gs t new nothing below) (here j within))
      (λ i ne. rw (set_other (λ (g : Ground). stands g j) gs t i new nothing (λ e. ne (sym e))) (there (plot_in gs i j))) i

  -- the same, where one section of the township has the list
  pub in_section : {A : Type 0} (R : List A → Plot → Plot → Type 0) (n : ℕ) (xs : List A) → R xs (stands old n) (stands new n)
      → ((j : ℕ) → j < 36 → j ≢ n → R [] (stands old j) (stands new j)) → ((u : Plot) → R [] u u)
      → Everywhere (length gs) (λ i j. R (cond (t == i && n == j) xs []) (plot_in gs i j) (plot_in (set gs t new) i j))
  in_section {A} R n xs here others there i j lt within =
      subst (λ (ys : List A). R ys (plot_in gs i j) (plot_in (set gs t new) i j)) (nested (t == i) (n == j) xs [])
      (in_township R (λ j. cond (n == j) xs []) (λ j. at_township n
      (λ (b : Bool) (j : ℕ). j < 36 → R (cond b xs []) (stands old j) (stands new j)) (λ _. here)
      (λ j ne within. others j within (λ e. ne (sym e))) j) there i j lt within)

-- the pieces that lie in a section
squares_here : (h : Home) (x : Parts) (t n : ℕ) → h ≡ home.Section n t → parts_at h x t n ≡ squares_in x
squares_here h x t n is =
    ap (λ (k : Home). parts_at k x t n) is
    ∙ cond-true (t == t && n == n) (squares_in x) [] (and_from (t == t) (n == n) (eq-eqb t t refl) (eq-eqb n n refl))

-- they are those that go there
pub goes_here : (gs : List Ground) (h : Home) (x : Parts) (t n : ℕ) (old : Ground) → h ≡ home.Section n t → IsHome (length gs) h
    → old ≡ get_or gs t old
    → Everywhere (length gs) (λ i j. Disjoint (paths (parts_at h x i j)) × Ready (paths (parts_at h x i j)) (plot_in gs i j))
    → Disjoint (paths (squares_in x)) × Ready (paths (squares_in x)) (stands old n)
goes_here gs h x t n old is there at goes =
    let below = rw is at there in
    let mine = squares_here h x t n is in
    subst (λ (u : Plot). Disjoint (paths (squares_in x)) × Ready (paths (squares_in x)) u) (was_here gs t old old below.0 at n)
    (subst (λ (xs : List Piece). Disjoint (paths xs) × Ready (paths xs) (plot_in gs t n)) mine (goes t n below.0 below.1))

-- and stand in order where those do
pub order_here : (gs : List Ground) (h : Home) (x : Parts) (t n : ℕ) → h ≡ home.Section n t → IsHome (length gs) h
    → Everywhere (length gs) (λ i j. InOrder (paths (parts_at h x i j))) → InOrder (paths (squares_in x))
order_here gs h x t n is there order =
    let below = rw is at there in
    subst (λ (xs : List Piece). InOrder (paths xs)) (squares_here h x t n is) (order t n below.0 below.1)

-- ---- what stays as it is

pub stays_whole : (t : Plot) → Stays [] t t
stays_whole t = (stays_refines t, stays_within [] t, stays_elsewhere [] t)

pub not_split : (ways named : ℕ → ℕ → List (List Quarter)) (reached : ℕ → Bool) (gs : List Ground) → AreSplit ways named reached gs gs
not_split ways named reached gs = record {
  sized = refl;
  refines = λ i j a b. stays_refines (plot_in gs i j);
  within = λ i j a b. stays_within (ways i j) (plot_in gs i j);
  elsewhere = λ i j a b. stays_elsewhere (named i j) (plot_in gs i j);
  kept = λ i h. h;
  closed = λ i h. refl;
}

pub not_touched : (gs : List Ground) → AreUntouched gs gs
not_touched gs = record { stays = λ i j a b. refl; closable = λ i. refl }

-- townships of which one is as it was
pub one_untouched : (gs : List Ground) (t : ℕ) (old new : Ground) → t < length gs → old ≡ get_or gs t old → IsUntouched old new
    → AreUntouched gs (set gs t new)
one_untouched gs t old new below at same = record {
  stays = in_township gs t old new below at (λ (xs : List Unit) (u v : Plot). v ≡ u) (λ j. []) same.stays (λ u. refl);
  closable = λ i. at_township t (λ (b : Bool) (i : ℕ). closable_in (set gs t new) i ≡ closable_in gs i)
      (set_at is_closable gs t new false below ∙ same.closable ∙ sym (read_at is_closable gs t old false below at))
      (λ i ne. set_other is_closable gs t i new false (λ e. ne (sym e))) i;
}

-- ---- townships one after another

-- a fact of each township by its index, and of one township more
pub pushed_each : {X : Type 0} (f : Ground → X) (d : X) (P : ℕ → X → Type 0) (gs : List Ground) (g : Ground) → P (length gs) (f g)
    → ((i : ℕ) → i < length gs → P i (get_or (map f gs) i d)) → (i : ℕ) → i < length (gs ++ g ∷ [])
    → P i (get_or (map f (gs ++ g ∷ [])) i d)
pushed_each f d P [] g here before zero lt = here
pushed_each f d P [] g here before (suc i) lt = absurd (omega (arith, lt))
pushed_each f d P (x ∷ gs) g here before zero lt = before zero (omega arith)
pushed_each f d P (x ∷ gs) g here before (suc i) lt =
    pushed_each f d (λ k. P (suc k)) gs g here (λ k l. before (suc k) (omega (arith, l))) i (omega (arith, lt))

-- a test that none passes
pub pushed_none : (f : Ground → Bool) (gs : List Ground) (g : Ground) → f g ≡ false → ((i : ℕ) → get_or (map f gs) i false ≡ false)
    → (i : ℕ) → get_or (map f (gs ++ g ∷ [])) i false ≡ false
pushed_none f [] g e none zero = e
pushed_none f [] g e none (suc i) = refl
pushed_none f (h ∷ gs) g e none zero = none zero
pushed_none f (h ∷ gs) g e none (suc i) = pushed_none f gs g e (λ k. none (suc k)) i

-- a fault of one township is one of all
pub tells_somewhere : {R : Type 0} (f : Fault R) (count : ℕ) (why : ℕ → ℕ → Option R) (i : ℕ) → i < count
    → (j : ℕ) × (j < 36) × Tells f (why i j) → TellsSomewhere f count why
tells_somewhere fault.Memory count why i lt told = tt
tells_somewhere (fault.Refused reason) count why i lt told = (i, told.0, lt, told.1, told.2)

-- where nothing else refuses it tells the same
pub tells_or : {R : Type 0} (f : Fault R) (o : Option R) → Tells f o → Tells f (option_or o None)
tells_or fault.Memory o h = tt
tells_or (fault.Refused reason) o h = ap (λ z. option_or z None) h

-- tests of townships after one was written
pub test_elsewhere : (f : Ground → Bool) (gs : List Ground) (t i : ℕ) (g : Ground) → (t == i) ≡ false
    → get_or (map f (set gs t g)) i false ≡ get_or (map f gs) i false
test_elsewhere f gs t i g h = set_other f gs t i g false (λ e. eqb-false t i h (sym e))

pub test_written : (f : Ground → Bool) (gs : List Ground) (t i : ℕ) (g : Ground) → t < length gs → (t == i) ≡ true
    → get_or (map f (set gs t g)) i false ≡ f g
test_written f gs t i g below h =
    subst (λ (k : ℕ). get_or (map f (set gs t g)) k false ≡ f g) (eqb-true t i h) (set_at f gs t g false below)

pub kept_parted : (gs : List Ground) (t i : ℕ) (g : Ground) → (get_or (map is_parted gs) t false ≡ true → is_parted g ≡ true)
    → get_or (map is_parted gs) i false ≡ true → get_or (map is_parted (set gs t g)) i false ≡ true
kept_parted [] t i g k h = h
kept_parted (x ∷ gs) zero zero g k h = k h
kept_parted (x ∷ gs) zero (suc i) g k h = h
kept_parted (x ∷ gs) (suc t) zero g k h = h
kept_parted (x ∷ gs) (suc t) (suc i) g k h = kept_parted gs t i g k h

pub read_parted : (gs : List Ground) (t : ℕ) (g : Ground) → t < length gs → is_parted (get_or gs t g) ≡ get_or (map is_parted gs) t false
read_parted gs t g h = sym (get_or-map is_parted gs t g false h)

pub same_number : (t : ℕ) → (t == t) ≡ true
same_number t = eq-eqb t t refl

pub ruleset township_tests = (test_elsewhere, test_written, kept_parted, read_parted, same_number)
