-- The cells of a square, by its quarters.
use Rattle.std.proofs.Common.{◌≡◌, ℕ, zero, suc, ◌-◌, ◌<◌, ◌≤◌, Bool, List, [], ◌∷◌, ◌++◌, take, refl, sym, ap, ◌∙◌, arith}
use Rattle.std.{proofs.lemmas.List.{take_all, Elements.{filter-append}}, specs.{List.{filter, flat_map}, Prelude.{Result, Ok, Err, OnOk}}}
use Rattle.title_land.specs.{declared.{survey.{Section.{Section}, Cell.{Cell}}, rectangle.Quarter.{Quarter}}, CellLists.{cells_below}}
use Rattle.title_land.specs.{Depth.{depth}, Nodes.{quarters}}

-- what passes of lists one after another
filter_flat : {X Y : Type 0} (p : Y → Bool) (f : X → List Y) (xs : List X) → flat_map (λ x. filter p (f x)) xs ≡ filter p (flat_map f xs)
filter_flat p f [] = refl
filter_flat p f (x ∷ xs) = ap (λ ys. filter p (f x) ++ ys) (filter_flat p f xs) ∙ sym (filter-append p (f x) (flat_map f xs))

-- the passing cells of a square that has levels below it are those of its quarters
square_split : (p : Cell → Bool) (s : Section) (levels : ℕ) (w : List Quarter) → 0 < levels
    → flat_map (λ q. filter p (cells_below depth s (levels - 1) (q ∷ w))) quarters ≡ filter p (cells_below depth s levels w)
square_split p s zero w l = absurd (omega arith)
square_split p s (suc levels) w l =
    let k : suc levels - 1 ≡ levels = omega arith in
    rw k (filter_flat p (λ q. cells_below depth s levels (q ∷ w)) quarters)

-- after the last quarter the square's are there
pub square_done : (p : Cell → Bool) (s : Section) (levels : ℕ) (w : List Quarter) (old new : List Cell) (i : ℕ) → 0 < levels → 4 ≤ i
    → new ≡ old ++ flat_map (λ q. filter p (cells_below depth s (levels - 1) (q ∷ w))) (take i quarters)
    → new ≡ old ++ filter p (cells_below depth s levels w)
square_done p s levels w old new i l h e =
    let cells = flat_map (λ q. filter p (cells_below depth s (levels - 1) (q ∷ w))) in
    e ∙ ap (λ qs. old ++ cells qs) (take_all i quarters h) ∙ ap (λ cs. old ++ cs) (square_split p s levels w l)

-- what follows from what holds of an `Ok`
pub on_ok : {T E : Type 0} (r : Result T E) (P Q : Type 0) → (P → Q) → OnOk r P → OnOk r Q
on_ok (Ok x) P Q f h = f h
on_ok (Err e) P Q f h = tt
