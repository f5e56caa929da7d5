-- What a store keeps, through each of its operations.
use Rattle.std.proofs.Common.{◌≡◌, ◌∙◌, ap, sym, refl, subst, ℕ, ◌+◌, ◌-◌, ◌<◌, arith, true, false, inl, inr, List, [], ◌∷◌, length, map}
use Rattle.std.proofs.lemmas.Bool.{and_from, and_parts, or_cases, both_ways, eqb-true, false_from_ne_true}
use Rattle.title_land.specs.{Depth.{depth}, declared.{survey.Township.{Township}, rectangle.Quarter.{Quarter}, tract.Land.{Land}}}
use Rattle.title_land.specs.{Nodes.{same_path}, Lands.{is_in_plant, meets}, Laws.SameNode.{same_path-is, same_path-self}}
use Rattle.title_land.specs.Laws.{TractSharing.{common_meets}, Members.{In, in_map, in_mapped, in_middle, in_more}}
use Rattle.title_instrument.specs.{declared.{parts.Estate.{Estate}, instrument.Instrument.{Instrument}}}
use Rattle.title_store.specs.Plants.{IsEachOnce}
use Rattle.title_tree.specs.{Paths.{begins}, Plots.{Plot, graft, fits}, Lendings.{Lending, Clear}, Laws.Beginnings.{begins_self}}
use Rattle.title_tree.specs.{Pieces.{Piece, paths, Disjoint, Ready, Short, swapped, taken}, Laws.Images.{keeps_less, keeps_refined}}
use Rattle.title_tree.specs.Laws.Depths.{fits_graft, fits_plot_at}
use Rattle.title_tree_store.specs.declared.{lent.Lent.{Lent}, forest.{Forest.{Forest}, Parts.{Parts}}}
use Rattle.title_tree_store.{specs.{declared.spots.Home.{Home}, Grounds.{Everywhere}}, proofs.Contents.{each, everywhere}}
use Rattle.title_tree_store.{specs.Spots.{home_in, tract_ways, ways_in, is_in_township, IsHome}, proofs.Images.{rises_less}}
use Rattle.title_tree_store.specs.Forests.{grounds, plots, wants, brings, is_some_part, IsQuartered}
use Rattle.title_tree_store.specs.Keeping.{lent_pieces, lending, loans_of, same_ways, PiecesFit, IsBacked, IsKept, Rises, IsTakenOut}
use Rattle.title_tree_store.proofs.CellPaths.{index_below, cell_at, tract_short, whole, length-whole, has_whole, tract_has_at}
use Rattle.title_land.specs.declared.tract.Land.TheVariants as land
use Rattle.title_tree_store.specs.declared.forest.Parts.TheVariants as parts
use Rattle.title_tree_store.specs.declared.spots.Home.TheVariants as home

pub same_ways-is : (ps qs : List (List Quarter)) → same_ways ps qs ≡ true → ps ≡ qs
same_ways-is [] [] h = refl
same_ways-is [] (q ∷ qs) h = absurd cc
same_ways-is (p ∷ ps) [] h = absurd cc
same_ways-is (p ∷ ps) (q ∷ qs) h =
    let k = and_parts (same_path p q) (same_ways ps qs) h in
    ap (λ (z : List Quarter). z ∷ ps) (same_path-is p q k.0) ∙ ap (λ (z : List (List Quarter)). q ∷ z) (same_ways-is ps qs k.1)

pub same_ways-self : (ps : List (List Quarter)) → same_ways ps ps ≡ true
same_ways-self [] = refl
same_ways-self (p ∷ ps) = and_from (same_path p p) (same_ways ps ps) (same_path-self p) (same_ways-self ps)

-- a path of an image is one of its tract's
pub in_ways : {ts : List Township} {l : Lent} → IsBacked ts l → (e : Estate) → Everywhere (length ts) (λ i j. (p : List Quarter)
    → In p (paths (lent_pieces ts l e i j)) → In p (ways_in ts l.land i j))
in_ways {ts} {l} backed e i j a b p m =
    let own = paths (lent_pieces ts l e i j) in
    elim (or_cases (same_ways own []) (same_ways own (ways_in ts l.land i j)) (backed.at e i j a b)) [
      | inl h ↦ absurd (subst (λ (z : List (List Quarter)). In p z) (same_ways-is _ _ h) m)
      | inr h ↦ subst (λ (z : List (List Quarter)). In p z) (same_ways-is _ _ h) m
    ]

-- a tract of the plant has a township
pub some_township : (ts : List Township) (x : Land) → is_in_plant ts x ≡ true → 0 < length ts
some_township [] land.Everything h = absurd cc
some_township (t ∷ ts) land.Everything h = omega arith
some_township ts (land.Township t) h = let l = index_below ts t h in omega (arith, l)
some_township ts (land.Part s g) h = let l = index_below ts s.township h in omega (arith, l)

-- ---- parts that want a township's sections to have trees of their own

pub wants_parts : (h : Home) (x : Parts) (i : ℕ) → wants h x i ≡ true
    → (is_some_part x ≡ true) × (is_in_township h i ≡ true) × (brings h x i ≡ true)
wants_parts h (parts.One part) i w = (refl, w, refl)
wants_parts h (parts.Many many) i w = (refl, w, refl)
wants_parts h _ i w = absurd cc

pub in_township_below : (count : ℕ) (h : Home) (i : ℕ) → IsHome count h → is_in_township h i ≡ true → i < count
in_township_below count (home.Section n t) i there h = subst (λ (k : ℕ). k < count) (eqb-true t i h) there.0
in_township_below count _ i there h = absurd cc

-- ---- depth

pub fits_swapped : (levels : ℕ) (xs : List Piece) (t : Plot) → Short (paths xs) levels → PiecesFit levels xs → fits levels t ≡ true
    → (fits levels (swapped xs t) ≡ true) × PiecesFit levels (taken xs t)
fits_swapped levels [] t s f h = (h, λ y i. absurd i)
fits_swapped levels (x ∷ xs) t s f h =
    let below : levels ≡ length x.path + (levels - length x.path) = omega (arith, s x.path (inl refl)) in
    let next = fits_swapped levels xs (graft x.path x.plot t) (λ p i. s p (inr i)) (λ y i. f y (inr i))
    (fits_graft levels (levels - length x.path) x.path x.plot t below h (f x (inl refl) (levels - length x.path) below)) in (
      next.0,
      λ y i. elim i [
        | inl e ↦ subst (λ (z : Piece). (n : ℕ) → levels ≡ length z.path + n → fits n z.plot ≡ true) (sym e)
            (λ n m. fits_plot_at levels n x.path t m h)
        | inr j ↦ next.1 y j
      ],
    )

-- ---- where no image is out

pub no_loans : (ts : List Township) (ps : Estate → ℕ → ℕ → Plot) (lent : List Lent) → loans_of ts ps lent ≡ [] → lent ≡ []
no_loans ts ps [] h = refl
no_loans ts ps (l ∷ lent) h = absurd cc

pub kept_none : {ts : List Township} {f : Forest} (n : ℕ) → ((e : Estate) → length (grounds f e) ≡ length ts)
    → ((e : Estate) → Everywhere (length ts) (λ i j. fits depth (plots f e i j) ≡ true)) → IsKept ts f [] n
kept_none n sized fit = record {
  sized = sized;
  fit = fit;
  keeps = λ e i j a b. record { ready = λ x m. absurd m; apart = λ x m. absurd m; below = λ x m. absurd m; reaches = λ x y m. absurd m };
  backed = λ l m. absurd m;
  rises = tt;
  wanted = λ e i l m. absurd m;
  brought = λ e i x y m. absurd m;
}

-- ---- quartering, where it stops for want of memory

pub kept_stopped : {ts : List Township} {old new : Forest} {lent : List Lent} {n : ℕ} {i : Instrument ℕ} (x : Land)
    → IsQuartered i (home_in ts x) (tract_ways x) old new → IsKept ts old lent n → IsKept ts new lent n
kept_stopped {ts} {old} {new} {lent} {n} x q k = record {
  sized = λ e. (each q.split e).sized ∙ k.sized e;
  fit = λ e i j a b. everywhere (k.sized e) ((each q.split e).within) i j a b depth (tract_short ts x i j) (k.fit e i j a b);
  keeps = λ e i j a b. keeps_refined (plots old e i j) (plots new e i j) (map (lending ts e i j) lent) n
      (everywhere (k.sized e) ((each q.split e).refines) i j a b) (k.keeps e i j a b);
  backed = k.backed;
  rises = k.rises;
  wanted = λ e i l m w. (each q.split e).kept i (k.wanted e i l m w);
  brought = k.brought;
}

-- ---- an image that is taken out

pub out_in : {n : ℕ} {l : Lent} {old new : List Lent} → IsTakenOut n l old new → In l old
out_in {l} out = subst (λ (z : List Lent). In l z) (sym out.old_is) (in_middle l out.before out.later)

-- the others were out too
pub left_in : {n : ℕ} {l : Lent} {old new : List Lent} → IsTakenOut n l old new → (x : Lent) → In x new → In x old
left_in {l} out x i = subst (λ (z : List Lent). In x z) (sym out.old_is)
    (in_more x l out.before out.later (subst (λ (z : List Lent). In x z) out.new_is i))

pub lendings_in : (ts : List Township) {n : ℕ} {l : Lent} {old new : List Lent} → IsTakenOut n l old new → (e : Estate) (i j : ℕ)
    (x : Lending) → In x (map (lending ts e i j) new) → In x (map (lending ts e i j) old)
lendings_in ts {old} {new} out e i j x m =
    let k = in_mapped (lending ts e i j) x new m in
    subst (λ (z : Lending). In z (map (lending ts e i j) old)) (sym k.2) (in_map (lending ts e i j) k.0 old (left_in out k.0 k.1))

pub kept_less : {ts : List Township} {f : Forest} {old new : List Lent} {next n : ℕ} {l : Lent} → IsTakenOut n l old new
    → IsKept ts f old next → IsKept ts f new next
kept_less {ts} {f} {old} {new} {next} {l} out k = record {
  sized = k.sized;
  fit = k.fit;
  keeps = λ e i j a b. keeps_less (plots f e i j) (map (lending ts e i j) old) (map (lending ts e i j) new) next (lendings_in ts out e i j)
      (k.keeps e i j a b);
  backed = λ x m. k.backed x (left_in out x m);
  rises = subst Rises (sym out.new_is) (rises_less l out.before out.later (subst Rises out.old_is k.rises));
  wanted = λ e i x m. k.wanted e i x (left_in out x m);
  brought = λ e i x y m o. k.brought e i x y (left_in out x m) (left_in out y o);
}

-- the pieces of an image that goes back have nodes of their own in the trees
pub goes_back : {ts : List Township} {f : Forest} {old new : List Lent} {next n : ℕ} {l : Lent} → IsTakenOut n l old new
    → IsKept ts f old next → (e : Estate) → Everywhere (length ts) (λ i j. Disjoint (paths (lent_pieces ts l e i j))
    × Ready (paths (lent_pieces ts l e i j)) (plots f e i j))
goes_back {ts} {old} {l} out k e i j a b =
    let m = in_map (lending ts e i j) l old (out_in out) in
    let keeps = k.keeps e i j a b in
    (keeps.apart (lending ts e i j l) m, keeps.ready (lending ts e i j l) m)

-- where two tracts share no cell no path of one begins a path of the other
pub tracts_clear : (ts : List Township) (x y : Land) (i j : ℕ) → IsEachOnce ts → i < length ts → j < 36 → is_in_plant ts x ≡ true
    → is_in_plant ts y ≡ true → meets x y ≡ false → Clear (ways_in ts x i j) (ways_in ts y i j)
tracts_clear ts x y i j once a b of at apart p q m n = false_from_ne_true (begins p q) (λ h.
    let has = has_whole (ways_in ts y i j) q q n (begins_self q) in
    let c = cell_at ts i j (whole q) once a b (length-whole q (tract_short ts y i j q n)) in
    both_ways (meets x y) apart (common_meets x y c.cell
    (sym (tract_has_at ts x i j _ c of) ∙ has_whole (ways_in ts x i j) p q m h)
    (sym (tract_has_at ts y i j _ c at) ∙ has)))
