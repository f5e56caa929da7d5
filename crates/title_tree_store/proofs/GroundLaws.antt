-- What stands in a township's sections and in the townships of a plant, one after another.
use Rattle.std.proofs.Common.{◌≡◌, ◌≢◌, ◌∙◌, ap, sym, refl, ℕ, zero, suc, ◌+◌, ◌<◌, arith, List, [], ◌∷◌, ◌++◌, length, map, get_or, take}
use Rattle.std.{proofs.{Common.{set, replicate, true, false}, lemmas.List.{length-set, Folds.{list_all-map}}}, specs.List.{list_all}}
use Rattle.std.proofs.lemmas.Bool.{and_parts, false_from_ne_true, false≢true}
use Rattle.std.proofs.lemmas.List.{get_or-map, length-map, map-append, map-set, take-map, take_more, get_or-set_same, get_or-set_other}
use Rattle.std.proofs.lemmas.List.{get_or-replicate, length-replicate, set-get_or}
use Rattle.title_tree.specs.{declared.tree.Tree.{Tree}, Plots.{Plot, Same, Four, same_leaf}, Trees.{plot}, Laws.SameDivisions.{same_is}}
use Rattle.title_tree_store.specs.Grounds.{nothing, are_one}

-- what is read of a list is what its images have there
pub read_at : {X Y : Type 0} (f : X → Y) (xs : List X) (i : ℕ) (x : X) (d : Y) → i < length xs → x ≡ get_or xs i x
    → get_or (map f xs) i d ≡ f x
read_at f xs i x d h e = get_or-map f xs i x d h ∙ ap f (sym e)

-- what is written there
pub set_at : {X Y : Type 0} (f : X → Y) (xs : List X) (i : ℕ) (y : X) (d : Y) → i < length xs → get_or (map f (set xs i y)) i d ≡ f y
set_at f xs i y d h =
    let long : i < length (set xs i y) = omega (arith, length-set xs i y) in
    get_or-map f (set xs i y) i y d long ∙ ap f (get_or-set_same xs i y y h)

-- elsewhere it is as it was
pub set_other : {X Y : Type 0} (f : X → Y) (xs : List X) (i j : ℕ) (y : X) (d : Y) → j ≢ i
    → get_or (map f (set xs i y)) j d ≡ get_or (map f xs) j d
set_other f xs i j y d ne = ap (λ zs. get_or zs j d) (map-set f xs i y) ∙ get_or-set_other (map f xs) i j (f y) d ne

-- leaves of one division are the same plot
leaf_is : (t u : Plot) → same_leaf t u ≡ true → u ≡ t
leaf_is (Same held) (Same other) h = ap Same (sym (same_is held other h))
leaf_is (Same held) (Four a b c d) h = absurd (false≢true h)
leaf_is (Four a b c d) u h = absurd (false≢true h)

all_are : (t : Plot) (ts : List Plot) → list_all (same_leaf t) ts ≡ true → (j : ℕ) → j < length ts → get_or ts j nothing ≡ t
all_are t [] h j lt = absurd (omega arith)
all_are t (u ∷ ts) h zero lt = leaf_is t u (and_parts (same_leaf t u) (list_all (same_leaf t) ts) h).0
all_are t (u ∷ ts) h (suc j) lt = all_are t ts (and_parts (same_leaf t u) (list_all (same_leaf t) ts) h).1 j (omega arith)

first_stands : (ts : List Plot) → are_one ts ≡ true → (j : ℕ) → j < length ts → get_or ts j nothing ≡ get_or ts 0 nothing
first_stands [] h j lt = absurd (omega arith)
first_stands (t ∷ ts) h zero lt = refl
first_stands (t ∷ ts) h (suc j) lt = all_are t ts h j (omega arith)

-- where one section is quartered they aren't
pub quartered_apart : (ts : List Plot) (j : ℕ) (a b c d : Plot) → length ts ≡ 36 → j < 36 → get_or ts j nothing ≡ Four a b c d
    → are_one ts ≡ false
quartered_apart [] j a b c d l lt h = absurd (omega (arith, l))
quartered_apart (t ∷ []) j a b c d l lt h = absurd (omega (arith, l))
quartered_apart (Four p q r s ∷ u ∷ us) j a b c d l lt h = refl
quartered_apart (Same held ∷ u ∷ us) j a b c d l lt h = false_from_ne_true _ (λ one.
    let same : Same held ≡ Four a b c d = sym (first_stands (Same held ∷ u ∷ us) one j (omega (arith, lt, l))) ∙ h in absurd cc)

-- so what stands in one section stands in each
pub one_stands : (xs : List Tree) (j : ℕ) → are_one (map plot xs) ≡ true → length xs ≡ 36 → j < 36
    → get_or (map plot xs) j nothing ≡ get_or (map plot xs) 35 nothing
one_stands xs j h all lt =
    let long : length (map plot xs) ≡ 36 = length-map xs plot ∙ all in
    first_stands (map plot xs) h j (omega arith) ∙ sym (first_stands (map plot xs) h 35 (omega arith))

-- what `grind` reads of the sections' trees: one that is read, one that is written, the others, one more
pub read_plot : (xs : List Tree) (i : ℕ) (t : Tree) → i < length xs → plot (get_or xs i t) ≡ get_or (map plot xs) i nothing
read_plot xs i t h = sym (get_or-map plot xs i t nothing h)

pub set_plot : (xs : List Tree) (i : ℕ) (t : Tree) → i < length xs → get_or (map plot (set xs i t)) i nothing ≡ plot t
set_plot xs i t = set_at plot xs i t nothing

pub other_plot : (xs : List Tree) (i j : ℕ) (t : Tree) → j ≢ i → get_or (map plot (set xs i t)) j nothing ≡ get_or (map plot xs) j nothing
other_plot xs i j t = set_other plot xs i j t nothing

pub push_plot : (xs : List Tree) (t : Tree) → map plot (xs ++ t ∷ []) ≡ map plot xs ++ plot t ∷ []
push_plot xs t = map-append plot xs (t ∷ [])

pub more_plots : (h : Plot → Plot) (xs : List Tree) (i : ℕ) → i < length xs
    → map h (map plot (take (i + 1) xs)) ≡ map h (map plot (take i xs)) ++ h (get_or (map plot xs) i nothing) ∷ []
more_plots h xs i lt =
    let long : i < length (map plot xs) = omega (arith, length-map xs plot) in
    ap (map h) (sym (take-map plot (i + 1) xs) ∙ take_more (map plot xs) i nothing long)
    ∙ map-append h (take i (map plot xs)) (get_or (map plot xs) i nothing ∷ [])
    ∙ ap (λ ts. map h ts ++ h (get_or (map plot xs) i nothing) ∷ []) (take-map plot i xs)

-- 36 copies of one
pub long_copies : (xs : List Tree) (t : Plot) (i : ℕ) → map plot xs ≡ replicate 36 t → i < 36 → i < length xs
long_copies xs t i copies lt =
    let long : length xs ≡ 36 = sym (length-map xs plot) ∙ ap (λ ts. length ts) copies ∙ length-replicate 36 t in omega (arith, long, lt)

pub each_copy : (xs : List Tree) (t : Plot) (j : ℕ) → map plot xs ≡ replicate 36 t → j < 36 → get_or (map plot xs) j nothing ≡ t
each_copy xs t j copies lt = ap (λ ts. get_or ts j nothing) copies ∙ get_or-replicate 36 j t nothing lt

-- where one is written that is the same plot all are as they were
pub same_plots : (xs : List Tree) (i : ℕ) (old new : Tree) → i < length xs → old ≡ get_or xs i old → plot new ≡ plot old
    → map plot (set xs i new) ≡ map plot xs
same_plots xs i old new lt at same = map-set plot xs i new ∙ ap (set (map plot xs) i) (same ∙ ap plot at ∙ read_plot xs i old lt)
    ∙ set-get_or (map plot xs) i nothing

pub ruleset section_trees = (read_plot, set_plot, other_plot, push_plot, more_plots)

pub ruleset section_tests = (list_all-map)
