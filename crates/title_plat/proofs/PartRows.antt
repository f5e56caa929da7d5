-- The rows of parts: all of the sheet's, each once, in runs that couldn't be longer.
use Rattle.std.proofs.Common.{◌≡◌, ◌≤◌, ◌<◌, ◌+◌, ◌-◌, ◌∙◌, ◌++◌, ℕ, refl, Bool, true, false, cond, List, [], ◌∷◌, length, take, drop}
use Rattle.std.proofs.{Common.{sym, subst, ap, append_assoc, arith}, lemmas.Bool.{and_from}}
use Rattle.std.proofs.lemmas.{Grind.{common_steps}, List.{drop-drop, drop-take, length-drop, take-append-drop}}
use Rattle.std.proofs.lemmas.List.Elements.{All-cons, All-nil, All-push}
use Rattle.std.specs.List.{All, flat_map, slice_range}
use Rattle.title_instrument.specs.declared.parts.Estate.{Estate, TheVariants.{S, O, M}}
use Rattle.title_land.specs.Laws.NodeSharing.{same_from_equal}
use Rattle.title_plat.specs.declared.{parts.Part.{Part}, row.Row.{Row}}
use Rattle.title_plat.specs.Parts.{same_estate, is_row_of, owners_of, part_at, parts_behind}
use Rattle.title_plat.specs.Laws.{IsOwner, IsPart, NextIsOther, AreRuns, PartsHaveTheRows}
use Rattle.title_plat.proofs.Walks.{ending}

-- what is so of each branch is so of the choice
either : {X : Type 0} (P : X → Type 0) (b : Bool) (x y : X) → (b ≡ true → P x) → (b ≡ false → P y) → P (cond b x y)
either P true x y f g = f refl
either P false x y f g = g refl

-- ---- places

-- the front of a list, in two pieces
front_more : {X : Type 0} (xs : List X) (i n : ℕ) → take (i + n) xs ≡ take i xs ++ take n (drop i xs)
front_more xs i n = let h = take-append-drop i (take (i + n) xs) in let e = drop-take i n xs in grind (arith, common_steps, h, e)

-- what is behind a row
cut_next : (rows left : List Row) (row : Row) (place : ℕ) → drop place rows ≡ row ∷ left → drop (place + 1) rows ≡ left
cut_next rows left row place cut = sym (drop-drop 1 place rows) ∙ ap (drop 1) cut

-- a row's place is one of the list
cut_inside : (rows left : List Row) (row : Row) (place : ℕ) → drop place rows ≡ row ∷ left → place + 1 ≤ length rows
cut_inside rows left row place cut = let size = sym (length-drop place rows) ∙ ap length cut in omega (arith, size)

-- one row more between two places
one_more : (rows left : List Row) (row : Row) (first end : ℕ) → first ≤ end → drop end rows ≡ row ∷ left
    → slice_range rows first (end + 1) ≡ slice_range rows first end ++ row ∷ []
one_more rows left row first end rising cut =
    let count : end + 1 - first ≡ end - first + 1 = omega arith in
    let place : first + (end - first) ≡ end = omega arith in
    let next : drop (end - first) (drop first rows) ≡ row ∷ left =
    drop-drop (end - first) first rows ∙ ap (λ (k : ℕ). drop k rows) place ∙ cut in
    ap (λ (k : ℕ). take k (drop first rows)) count
    ∙ front_more (drop first rows) (end - first) 1
    ∙ ap (λ (xs : List Row). take (end - first) (drop first rows) ++ take 1 xs) next

-- the part that a row begins has that row alone
alone : (rows left : List Row) (row : Row) (place : ℕ) → drop place rows ≡ row ∷ left → owners_of rows (part_at place row) ≡ row ∷ []
alone rows left row place cut =
    let count : place + 1 - place ≡ 1 = omega arith in ap (λ (k : ℕ). take k (drop place rows)) count ∙ ap (take 1) cut

-- ---- each row once

-- a part and those behind it have its rows and all that follow
rows_had : (rows left : List Row) (part : Part) → part.first ≤ part.end → drop part.end rows ≡ left
    → flat_map (owners_of rows) (parts_behind part left) ≡ owners_of rows part ++ left
rows_had rows [] part rising cut = refl
rows_had rows (row ∷ left) part rising cut =
    let behind = cut_next rows left row part.end cut in
    let longer : part.first ≤ part.end + 1 = omega arith in
    let begun : part.end ≤ part.end + 1 = omega arith in
    either (λ (parts : List Part). flat_map (owners_of rows) parts ≡ owners_of rows part ++ row ∷ left)
    (is_row_of part.node part.estate row) (parts_behind (ending part (part.end + 1)) left) (part ∷ parts_behind (part_at part.end row) left)
    (λ same. rows_had rows left (ending part (part.end + 1)) longer behind
    ∙ ap (λ (xs : List Row). xs ++ left) (one_more rows left row part.first part.end rising cut)
    ∙ append_assoc (owners_of rows part) (row ∷ []) left)
    (λ other. ap (λ (xs : List Row). owners_of rows part ++ xs) (rows_had rows left (part_at part.end row) begun behind
    ∙ ap (λ (xs : List Row). xs ++ left) (alone rows left row part.end cut)))

-- ---- of one node and estate

-- a row is of its own node and estate
same_self : (estate : Estate) → same_estate estate estate ≡ true
same_self S = refl
same_self O = refl
same_self M = refl

own_row : (row : Row) → is_row_of row.node row.estate row ≡ true
own_row row = and_from _ _ (same_from_equal row.node row.node refl) (same_self row.estate)

-- what a row begins is a part
begins : (rows left : List Row) (row : Row) (place : ℕ) → drop place rows ≡ row ∷ left → IsPart rows (part_at place row)
begins rows left row place cut =
    let first : place < place + 1 = omega arith in
    let own = All-cons (IsOwner (part_at place row)) row [] (own_row row) (All-nil (IsOwner (part_at place row))) in
    (first, cut_inside rows left row place cut, subst (All (IsOwner (part_at place row))) (sym (alone rows left row place cut)) own)

-- a part with one row more like it is a part
goes_on : (rows left : List Row) (part : Part) (row : Row) → IsPart rows part → drop part.end rows ≡ row ∷ left → IsOwner part row
    → IsPart rows (ending part (part.end + 1))
goes_on rows left part row is cut like =
    let rising : part.first ≤ part.end = omega (arith, is.0) in
    let first : part.first < part.end + 1 = omega (arith, is.0) in
    let owners = All-push (IsOwner part) (owners_of rows part) row is.2 like in (
      first,
      cut_inside rows left row part.end cut,
      subst (All (IsOwner part)) (sym (one_more rows left row part.first part.end rising cut)) owners,
    )

-- a part and those behind it are parts of the sheet
are_parts : (rows left : List Row) (part : Part) → IsPart rows part → drop part.end rows ≡ left
    → All (IsPart rows) (parts_behind part left)
are_parts rows [] part is cut = All-cons (IsPart rows) part [] is (All-nil (IsPart rows))
are_parts rows (row ∷ left) part is cut =
    let behind = cut_next rows left row part.end cut in
    either (All (IsPart rows))
    (is_row_of part.node part.estate row) (parts_behind (ending part (part.end + 1)) left) (part ∷ parts_behind (part_at part.end row) left)
    (λ same. are_parts rows left (ending part (part.end + 1)) (goes_on rows left part row is cut same) behind)
    (λ other. All-cons (IsPart rows) part (parts_behind (part_at part.end row) left) is
    (are_parts rows left (part_at part.end row) (begins rows left row part.end cut) behind))

-- ---- as long as they can be

-- the first of a part and those behind it is of that part's node and estate
next_is_other : (before part : Part) (rows : List Row) → NextIsOther before (part ∷ []) → NextIsOther before (parts_behind part rows)
next_is_other before part [] h = h
next_is_other before part (row ∷ rows) h =
    either (NextIsOther before)
    (is_row_of part.node part.estate row) (parts_behind (ending part (part.end + 1)) rows) (part ∷ parts_behind (part_at part.end row) rows)
    (λ same. next_is_other before (ending part (part.end + 1)) rows h) (λ other. h)

-- each of them is of another than the one before it
are_runs : (part : Part) (rows : List Row) → AreRuns (parts_behind part rows)
are_runs part [] = (tt, tt)
are_runs part (row ∷ rows) =
    either AreRuns
    (is_row_of part.node part.estate row) (parts_behind (ending part (part.end + 1)) rows) (part ∷ parts_behind (part_at part.end row) rows)
    (λ same. are_runs (ending part (part.end + 1)) rows)
    (λ other. (next_is_other part (part_at part.end row) rows other, are_runs (part_at part.end row) rows))

pub parts_have_rows : PartsHaveTheRows
parts_have_rows [] = (refl, All-nil (IsPart []), tt)
parts_have_rows (row ∷ rows) =
    let rising : 0 ≤ 1 = omega arith in (
      rows_had (row ∷ rows) rows (part_at 0 row) rising refl,
      are_parts (row ∷ rows) rows (part_at 0 row) (begins (row ∷ rows) rows row 0 refl) refl,
      are_runs (part_at 0 row) rows,
    )
