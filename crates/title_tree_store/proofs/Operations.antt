-- The operations of a store, cell by cell.
use Rattle.std.proofs.Common.{◌≡◌, ◌≢◌, ◌∙◌, ap, sym, refl, subst, ℕ, ◌≤◌, ◌<◌, arith, Bool, true, false, List, [], ◌∷◌, length, map, cond}
use Rattle.std.{proofs.Common.{not, Option, Some, None, inl, inr, ◌||◌}, specs.Prelude.{MatchOption, ◌==◌}}
use Rattle.std.proofs.lemmas.Bool.{both_ways, cases_lt, cond-true, cond_both, true_from_ne_false}
use Rattle.title_share.specs.Division.{Division, all_to}
use Rattle.title_land.specs.{Depth.{depth}, declared.{survey.{Township.{Township}, Cell.{Cell}}, rectangle.Quarter.{Quarter}}}
use Rattle.title_land.specs.{Lands.{has, is_plant_cell}, Laws.Members.{In, in_map, in_mapped}}
use Rattle.title_instrument.specs.{declared.parts.Estate.{Estate}, Owners.{opening_owners}}
use Rattle.title_store.specs.{Plants.{IsEachOnce, is_cell_of}, Loans.{Loan, IsLentAs, IsOut, IsLast, IsFirst, without}}
use Rattle.title_tree.specs.{Plots.{Plot, Same, value_at, fits}, Pieces.{Piece, Short, paths, swapped}, Laws.Swaps.{value_swapped}}
use Rattle.title_tree.specs.{Laws.{Images.{keeps_restored}, CellSquares.{cell_ways_are_whole}}, Paths.{begins}}
use Rattle.title_tree.specs.Lendings.{Lending, Keeps, Clear, LaterClear}
use Rattle.title_tree_store.specs.{declared.{lent.Lent.{Lent}, forest.{Forest.{Forest}, Parts.{Parts}}}, Grounds.{Everywhere, is_parted}}
use Rattle.title_tree_store.specs.{declared.forest.Subtrees.{Subtrees}, Forests.{plots, parts_of, wants, brings, IsExchanged}}
use Rattle.title_tree_store.{specs.declared.spots.Home.{Home}, proofs.{CellPaths.{tract_short, is_there}, Contents.{in_section, in_square}}}
use Rattle.title_tree_store.{specs.Spots.{home_in, ways_at, ways_in, tract_ways}, proofs.Keeps.{tracts_clear, wants_parts}}
use Rattle.title_tree_store.proofs.{Images.{rises_apart}, Loans.{image_apart, lies_has, lies_not, own_backed, own_rises, none_later}}
use Rattle.title_tree_store.specs.Keeping.{content_of, lent_pieces, lending, loans_of, IsAbsent, IsTakenOut, IsKept, IsBacked}
use Rattle.title_tree_store.proofs.Loans.{later_not, before_not, was, lies, kept_of, before_now, among_lent, loan_under, loans_gone}
use Rattle.title_tree_store.proofs.Keeps.{in_township_below, in_ways, goes_back, kept_less, out_in, left_in, lendings_in, fits_swapped}
use Rattle.title_tree_store.proofs.Contents.{at_cell, everywhere, now, owners, owners_same, content_changes, cond_same, in_township}
use Rattle.title_tree_store.specs.declared.forest.Parts.TheVariants as parts
use Rattle.title_tree_store.specs.declared.spots.Home.TheVariants as home

-- the plant of trees in which party 0 has the whole of each cell
pub opens : (ts : List Township) (ps : Estate → ℕ → ℕ → Plot) → ((e : Estate) → Everywhere (length ts) (λ i j. ps e i j ≡ Same (all_to 0)))
    → (c : Cell) → content_of ts ps c ≡ opening_owners
unfolding opening_owners
opens ts ps h c = cond_both (is_plant_cell depth ts c) (owners (now ts ps c)) opening_owners (λ w. w ≡ opening_owners)
    (λ plant. owners_same (now ts ps c) (λ e. all_to 0) (λ e. ap (λ (t : Plot). value_at t (in_square c)) (at_cell ts c (h e) plant)))
    (λ _. refl)

-- ---- taking an image out

-- an image that is out is taken
pub is_taken : (ts : List Township) (ps : Estate → ℕ → ℕ → Plot) (old new : List Lent) (n : ℕ) (o : Option Lent)
    → IsOut n (loans_of ts ps old) → MatchOption o (IsAbsent n old) (λ l. IsTakenOut n l old new)
    → (l : Lent) × (o ≡ Some l) × IsTakenOut n l old new
is_taken ts ps old new n None out none =
    let m = among_lent ts ps old out.0 out.1.0 in absurd (none m.0 m.1 (sym m.2 ∙ out.1.1))
is_taken ts ps old new n (Some l) out h = (l, refl, h)

-- ---- an image that goes back

-- where what was taken out is held before what is left or behind it
out_of : (b : Bool) (x y : Division) (f : Division → Division) → (b ≡ true → f x ≡ x) → f (cond b x y) ≡ cond b x (f y)
out_of true x y f h = h refl
out_of false x y f h = refl

-- what doesn't bring back a township whose sections have trees of their own is all of the township
covers : (x : Parts) (h : Home) (i j : ℕ) (ps : List (List Quarter)) → brings h x i ≡ false → ways_at h ps i j ≡ [] ∷ []
covers (parts.Township g) (home.Township t) i j ps b =
    ap (λ (y : Bool). cond y ([] ∷ []) [])
    (true_from_ne_false (t == i) (λ e. both_ways _ b (ap (λ (y : Bool). not y || is_parted g.value) e)))
covers (parts.Plant gs) home.Everything i j ps b = refl
covers _ _ i j ps b = absurd cc

no_pieces : (xs : List Piece) → ((p : List Quarter) → In p (paths xs) → ⊥) → xs ≡ []
no_pieces [] none = refl
no_pieces (x ∷ xs) none = absurd (none x.path (inl refl))

module _ {ts : List Township} {old : Forest} (new : Forest) {lent less : List Lent} {next n : ℕ} {l : Lent}
    (out : IsTakenOut n l lent less) (last : IsLast n (loans_of ts (plots old) lent)) (kept : IsKept ts old lent next)
    {back : Subtrees} (swap : (e : Estate) → IsExchanged e (home_in ts l.land) l.trees back old new) where
  trees : (e : Estate) → Everywhere (length ts) (λ i j. plots new e i j ≡ swapped (lent_pieces ts l e i j) (plots old e i j))
  trees e = everywhere (kept.sized e) (swap e).trees

  mine : IsBacked ts l
  mine = own_backed ts old out kept

  short : (e : Estate) → Everywhere (length ts) (λ i j. Short (paths (lent_pieces ts l e i j)) depth)
  short e i j a b p m = tract_short ts l.land i j p (in_ways mine e i j a b p m)

  -- what a cell has after an image has gone back
  restored_value : (c : Cell) → is_plant_cell depth ts c ≡ true → (e : Estate) → now ts (plots new) c e ≡ was ts (plots old) (l ∷ []) c e
  restored_value c plant e =
      let i = in_township ts c in
      let j = in_section c in
      let goes = at_cell ts c (goes_back out kept e) plant in
      ap (λ (t : Plot). value_at t (in_square c)) (at_cell ts c (trees e) plant)
      ∙ value_swapped (lent_pieces ts l e i j) (plots old e i j) (in_square c) goes.0 goes.1
      (λ q k. subst (λ (n : ℕ). length q ≤ n) (sym (cell_ways_are_whole depth c.row c.column)) (at_cell ts c (short e) plant q k))

  pub restored_out : loans_of ts (plots new) less ≡ without n (loans_of ts (plots old) lent)
  restored_out = rw (out.old_is, out.new_is, ← out.number_is) (loans_gone ts (plots old) (plots new) out.before out.later l
      (own_rises ts old out kept)
      (λ x i c plant h e. ap (before_now ts out.later c e) (restored_value c plant e)
      ∙ out_of (lies ts e l c) (kept_of ts e l c) (now ts (plots old) c e) (before_now ts out.later c e) (λ f.
      none_later ts old out kept last c plant (lies_has ts l e c mine plant f) e (kept_of ts e l c)))
      (λ x i c plant h e. restored_value c plant e
      ∙ ap (λ (b : Bool). cond b (kept_of ts e l c) (now ts (plots old) c e)) (later_not ts old out kept last x i c plant h e)))

  -- the plant after an image has gone back
  pub restores : (b : Loan) → IsLentAs b n (loans_of ts (plots old) lent) → (c : Cell)
      → content_of ts (plots new) c ≡ cond (is_cell_of depth ts b.land c) (b.held c) (content_of ts (plots old) c)
  restores b among c = content_changes ts l.land (plots old) (plots new) (was ts (plots old) (l ∷ out.later))
      (λ x plant e. value x plant e (has l.land x) refl) c
      ∙ sym (cond_same (is_cell_of depth ts l.land c) _ _ (content_of ts (plots old) c)
      (cond-true (is_cell_of depth ts l.land c) (owners (was ts (plots old) (l ∷ out.later) c)) opening_owners))
      ∙ sym (ap (λ (z : Loan). cond (is_cell_of depth ts z.land c) (z.held c) (content_of ts (plots old) c))
      (loan_under ts (plots old) out.before out.later l b (own_rises ts old out kept)
      (rw (out.old_is, ← out.number_is) at among)))
    where
      value : (x : Cell) → is_plant_cell depth ts x ≡ true → (e : Estate) (y : Bool) → has l.land x ≡ y
          → now ts (plots new) x e ≡ cond y (was ts (plots old) (l ∷ out.later) x e) (now ts (plots old) x e)
      value x plant e true h = restored_value x plant e
          ∙ ap (cond (lies ts e l x) (kept_of ts e l x)) (sym (none_later ts old out kept last x plant h e (now ts (plots old) x e)))
      value x plant e false h = restored_value x plant e ∙ ap (λ (b : Bool). cond b (kept_of ts e l x) (now ts (plots old) x e))
          (lies_not ts l e x mine plant (both_ways (has l.land x) h))

  -- ---- what is kept

  apart : (x : Lent) → In x less → x.number ≢ l.number
  apart x m = rises_apart l out.before out.later (own_rises ts old out kept) x (subst (λ (z : List Lent). In x z) out.new_is m)

  others : (e : Estate) (i j : ℕ) (x : Lending) → In x (map (lending ts e i j) less)
      → In x (map (lending ts e i j) lent) × (x.number ≢ (lending ts e i j l).number)
  others e i j x m =
      let y = in_mapped (lending ts e i j) x less m in
      (lendings_in ts out e i j x m, λ f. apart y.0 y.1 (ap (λ (z : Lending). z.number) (sym y.2) ∙ f))

  module _ (once : IsEachOnce ts) where
    -- no later image has a path that one of this one's begins
    clear : (e : Estate) (x : Lent) → In x lent → n < x.number → Everywhere (length ts) (λ i j. Clear (ways_in ts l.land i j)
        (paths (lent_pieces ts x e i j)))
    clear e x m more i j a b p q s t =
        let of = kept.backed x m in
        tracts_clear ts l.land x.land i j once a b mine.within of.within
        (image_apart ts (λ z. n < z) (plots old) lent n l x last (out_in out) out.number_is m more) p q s (in_ways of e i j a b q t)

    later_clear : (e : Estate) → Everywhere (length ts) (λ i j. LaterClear (lending ts e i j l) (map (lending ts e i j) lent))
    later_clear e i j a b x m later p q s t =
        let y = in_mapped (lending ts e i j) x lent m in
        let more : n < y.0.number = omega (arith, later, ap (λ (z : Lending). z.number) y.2, out.number_is) in
        clear e y.0 y.1 more i j a b p q (in_ways mine e i j a b p s) (subst (λ (z : Lending). In q (paths z.pieces)) y.2 t)

    -- a township that an image wants parted is still so after this one has gone back
    brought : (e : Estate) (i : ℕ) (x : Lent) → In x less → wants (home_in ts x.land) (parts_of x.trees e) i ≡ true
        → brings (home_in ts l.land) (parts_of l.trees e) i ≡ true
    brought e i x m w = elim (cases_lt x.number l.number) [
      | inl before ↦ kept.brought e i x l (left_in out x m) (out_in out) before w
      | inr after ↦ true_from_ne_false _ (λ whole.
          let of = kept.backed x (left_in out x m) in
          let there = in_township_below (length ts) (home_in ts x.land) i (is_there ts x.land of.within)
          (wants_parts (home_in ts x.land) (parts_of x.trees e) i w).1 in
          let more : n < x.number = omega (arith, after, apart x m, out.number_is) in
          of.some e i w (λ j b. no_pieces (lent_pieces ts x e i j) (λ p s.
          let root : [] ∷ [] ≡ ways_in ts l.land i j =
          sym (covers (parts_of l.trees e) (home_in ts l.land) i j (tract_ways l.land) whole) in
          both_ways (begins [] p) (clear e x (left_in out x m) more i j there b [] p
          (subst (λ (z : List (List Quarter)). In [] z) root (inl refl)) s) refl)))
    ]

    pub restored_kept : IsKept ts new less next
    restored_kept =
        let left = kept_less out kept in
        record {
          sized = λ e. (swap e).sized ∙ kept.sized e;
          fit = λ e i j a b. ap (fits depth) (trees e i j a b) ∙ (fits_swapped depth (lent_pieces ts l e i j) (plots old e i j)
              (short e i j a b) (mine.fit e i j a b) (kept.fit e i j a b)).0;
          keeps = λ e i j a b. subst (λ (t : Plot). Keeps t (map (lending ts e i j) less) next) (sym (trees e i j a b))
              (keeps_restored (plots old e i j) (map (lending ts e i j) lent) (map (lending ts e i j) less) next (lending ts e i j l)
              (in_map (lending ts e i j) l lent (out_in out)) (later_clear e i j a b) (others e i j) (kept.keeps e i j a b));
          backed = left.backed;
          rises = left.rises;
          wanted = λ e i x m w. (swap e).parted i (left.wanted e i x m w) (brought e i x m w);
          brought = left.brought;
        }

-- ---- an image that is let go

pub forget_out : {ts : List Township} {f : Forest} {old new : List Lent} {next n : ℕ} {l : Lent} → IsTakenOut n l old new
    → IsFirst n (loans_of ts (plots f) old) → IsKept ts f old next → loans_of ts (plots f) new ≡ without n (loans_of ts (plots f) old)
forget_out {ts} {f} {l} out first k = rw (out.old_is, out.new_is, ← out.number_is) (loans_gone ts (plots f) (plots f) out.before out.later l
    (own_rises ts f out k)
    (λ x i c plant here e. ap (λ (b : Bool). cond b (kept_of ts e l c) (was ts (plots f) out.later c e))
    (sym (before_not ts f out k first x i c plant here e)))
    (λ x i c plant here e. refl))
