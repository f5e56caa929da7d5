-- Images that are out, as loans: what an image holds is read off it, the images after it and the trees.
use Rattle.std.proofs.Common.{◌≡◌, ◌≢◌, ◌∙◌, ap, sym, refl, subst, ℕ, ◌<◌, arith, List, [], ◌∷◌, ◌++◌, length, Bool, true, false, cond, eqb}
use Rattle.std.proofs.{Common.{inl, inr}, lemmas.Bool.{cases_Bool, eqb-true, eq-eqb, and_parts, both_ways, false_from_ne_true}}
use Rattle.title_share.specs.Division.{Division}
use Rattle.title_land.specs.{Depth.{depth}, declared.{survey.{Township.{Township}, Cell.{Cell}}, rectangle.Quarter.{Quarter}}}
use Rattle.title_land.specs.{declared.tract.Land.{Land}, Lands.{has, is_plant_cell, meets}, Laws.TractSharing.{common_meets}}
use Rattle.title_land.specs.Laws.Members.{In, in_left, in_right, in_middle}
use Rattle.title_instrument.specs.{declared.parts.Estate.{Estate}, Owners.{opening_owners}}
use Rattle.title_store.specs.{Plants.{is_cell_of}, Loans.{Loan, IsAmong, IsLentAs, IsLast, IsFirst, without}}
use Rattle.title_tree.specs.{Plots.{Plot, value_at}, Pieces.{paths, held, Refines}, Laws.PathLists.{has_from, has_in}}
use Rattle.title_tree.specs.Laws.CellSquares.{cell_ways_are_whole}
use Rattle.title_tree_store.specs.{declared.{lent.Lent.{Lent}, forest.Forest.{Forest}}, Forests.{plots}}
use Rattle.title_tree_store.specs.{Grounds.{Everywhere}, Spots.{ways_in}}
use Rattle.title_tree_store.specs.Keeping.{Rises, lent_pieces, lies_in, held_before, loan_of, loans_of, IsBacked, IsKept, IsTakenOut}
use Rattle.title_tree_store.proofs.{CellPaths.{tract_has}, Images.{less_before, more_later}, Keeps.{in_ways, out_in, left_in}}
use Rattle.title_tree_store.proofs.Contents.{owners, owners_same, cond_same, in_township, in_section, in_square, at_cell, now}

-- ---- what a cell held before some images

-- where none of the images has a cell, it held what it holds
none_holds : (ts : List Township) (e : Estate) (lent : List Lent) (i j : ℕ) (p : List Quarter) (now : Division)
    → ((x : Lent) → In x lent → lies_in ts e x i j p ≡ false) → held_before ts e lent i j p now ≡ now
none_holds ts e [] i j p now h = refl
none_holds ts e (x ∷ lent) i j p now h =
    ap (λ (b : Bool). cond b (held (lent_pieces ts x e i j) p) (held_before ts e lent i j p now)) (h x (inl refl))
    ∙ none_holds ts e lent i j p now (λ y m. h y (inr m))

held_join : (ts : List Township) (e : Estate) (lent later : List Lent) (i j : ℕ) (p : List Quarter) (now : Division)
    → held_before ts e (lent ++ later) i j p now ≡ held_before ts e lent i j p (held_before ts e later i j p now)
held_join ts e [] later i j p now = refl
held_join ts e (x ∷ lent) later i j p now =
    ap (cond (lies_in ts e x i j p) (held (lent_pieces ts x e i j) p)) (held_join ts e lent later i j p now)

-- two tracts that share no cell
never : (x y : Land) (c : Cell) → meets x y ≡ false → has x c ≡ true → has y c ≡ true → ⊥
never x y c apart h k = both_ways (meets x y) apart (common_meets x y c h k)

-- no image whose number passes a test shares a cell with the one of a number
abbrev pub AreApart : (ℕ → Type 0) → ℕ → List Loan → Type 0
AreApart Test number out = (b x : Loan) → IsLentAs b number out → IsAmong x out → Test x.number → meets b.land x.land ≡ false

module _ (ts : List Township) where
  -- what a cell held of an estate before some images, where it holds something now
  abbrev pub before_now : List Lent → Cell → Estate → Division → Division
  before_now lent c e now = held_before ts e lent (in_township ts c) (in_section c) (in_square c) now

  abbrev pub was : (Estate → ℕ → ℕ → Plot) → List Lent → Cell → Estate → Division
  was ps lent c e = before_now lent c e (now ts ps c e)

  -- a part of an image has the cell
  abbrev pub lies : Estate → Lent → Cell → Bool
  lies e l c = lies_in ts e l (in_township ts c) (in_section c) (in_square c)

  -- what an image holds of it
  abbrev pub kept_of : Estate → Lent → Cell → Division
  kept_of e l c = held (lent_pieces ts l e (in_township ts c) (in_section c)) (in_square c)

  -- it holds of each cell of an image's tract in the plant, and of each estate
  abbrev pub EachOf : Lent → (Cell → Estate → Type 0) → Type 0
  EachOf x P = (c : Cell) → is_plant_cell depth ts c ≡ true → has x.land c ≡ true → (e : Estate) → P c e

  -- the same loan, where its cells held the same
  loan_same : (ps qs : Estate → ℕ → ℕ → Plot) (l : Lent) (later less : List Lent)
      → EachOf l (λ c e. was qs (l ∷ less) c e ≡ was ps (l ∷ later) c e) → loan_of ts qs l less ≡ loan_of ts ps l later
  loan_same ps qs l later less f = λ i. record {
    number = l.number;
    land = l.land;
    held = λ c. cond_same (is_cell_of depth ts l.land c) (owners (was qs (l ∷ less) c)) (owners (was ps (l ∷ later) c)) opening_owners
        (λ h. let k = and_parts (has l.land c) (is_plant_cell depth ts c) h in
        owners_same (was qs (l ∷ less) c) (was ps (l ∷ later) c) (f c k.1 k.0)) i;
  }

  -- the same loans, where their cells hold the same now
  pub loans_agree : (ps qs : Estate → ℕ → ℕ → Plot) (lent : List Lent)
      → ((x : Lent) → In x lent → EachOf x (λ c e. now ts qs c e ≡ now ts ps c e)) → loans_of ts qs lent ≡ loans_of ts ps lent
  loans_agree ps qs [] f = refl
  loans_agree ps qs (l ∷ lent) f = λ i.
      loan_same ps qs l lent lent (λ c plant h e. ap (before_now (l ∷ lent) c e) (f l (inl refl) c plant h e)) i
      ∷ loans_agree ps qs lent (λ x j. f x (inr j)) i

  -- where the trees were quartered, each image holds what it held
  pub loans_refined : (ps qs : Estate → ℕ → ℕ → Plot) (lent : List Lent)
      → ((e : Estate) → Everywhere (length ts) (λ i j. Refines (ps e i j) (qs e i j))) → loans_of ts qs lent ≡ loans_of ts ps lent
  loans_refined ps qs lent r = loans_agree ps qs lent (λ x i c plant h e. (at_cell ts c (r e) plant).content (in_square c))

  -- what is out after a put: its image holds what its cells held, so each image before it holds what it held
  pub loans_push : (ps qs : Estate → ℕ → ℕ → Plot) (lent : List Lent) (l : Lent)
      → ((e : Estate) → Everywhere (length ts) (λ i j. (p : List Quarter) → length p ≡ depth
      → held_before ts e (l ∷ []) i j p (value_at (qs e i j) p) ≡ value_at (ps e i j) p))
      → loans_of ts qs (lent ++ l ∷ []) ≡ loans_of ts ps lent ++ loan_of ts qs l [] ∷ []
  loans_push ps qs [] l f = refl
  loans_push ps qs (x ∷ lent) l f = λ i. loan_same ps qs x lent (lent ++ l ∷ []) (λ c plant h e.
      held_join ts e (x ∷ lent) (l ∷ []) (in_township ts c) (in_section c) (in_square c) (now ts qs c e)
      ∙ ap (before_now (x ∷ lent) c e) (at_cell ts c (f e) plant (in_square c) (cell_ways_are_whole depth c.row c.column))) i
      ∷ loans_push ps qs lent l f i

  -- the number and the tract of a loan are those of an image
  pub among_lent : (ps : Estate → ℕ → ℕ → Plot) (lent : List Lent) (b : Loan) → IsAmong b (loans_of ts ps lent)
      → (x : Lent) × In x lent × (b.number ≡ x.number) × (b.land ≡ x.land)
  among_lent ps [] b i = absurd i
  among_lent ps (l ∷ lent) b i = elim i [
    | inl e ↦ (l, inl refl, ap (λ (z : Loan). z.number) e, ap (λ (z : Loan). z.land) e)
    | inr k ↦ let m = among_lent ps lent b k in (m.0, inr m.1, m.2, m.3)
  ]

  lent_among : (ps : Estate → ℕ → ℕ → Plot) (lent : List Lent) (x : Lent) → In x lent
      → (b : Loan) × IsAmong b (loans_of ts ps lent) × (b.number ≡ x.number) × (b.land ≡ x.land)
  lent_among ps [] x i = absurd i
  lent_among ps (l ∷ lent) x i = elim i [
    | inl e ↦ (loan_of ts ps l lent, inl refl, ap (λ (z : Lent). z.number) (sym e), ap (λ (z : Lent). z.land) (sym e))
    | inr k ↦ let m = lent_among ps lent x k in (m.0, inr m.1, m.2, m.3)
  ]

  pub image_apart : (Test : ℕ → Type 0) (ps : Estate → ℕ → ℕ → Plot) (lent : List Lent) (n : ℕ) (l x : Lent)
      → AreApart Test n (loans_of ts ps lent) → In l lent → l.number ≡ n → In x lent → Test x.number → meets l.land x.land ≡ false
  image_apart Test ps lent n l x apart i number j passes =
      let b = lent_among ps lent l i in
      let c = lent_among ps lent x j in
      let f = sym b.3 in
      let g = sym c.3 in
      (λ k. meets (f k) (g k)) ∙ apart b.0 c.0 (b.1, b.2 ∙ number) c.1 (subst Test (sym c.2) passes)

  -- the loan under an image's number is that image's
  pub loan_under : (ps : Estate → ℕ → ℕ → Plot) (before later : List Lent) (l : Lent) (b : Loan) → Rises (before ++ l ∷ later)
      → IsLentAs b l.number (loans_of ts ps (before ++ l ∷ later)) → b ≡ loan_of ts ps l later
  loan_under ps [] later l b r lent = elim lent.0 [
    | inl e ↦ e
    | inr k ↦ absurd (let m = among_lent ps later b k in omega (arith, r.0 m.0 m.1, lent.1, m.2))
  ]
  loan_under ps (y ∷ before) later l b r lent = elim lent.0 [
    | inl e ↦ absurd (omega (arith, r.0 l (in_middle l before later), lent.1, ap (λ (z : Loan). z.number) e))
    | inr k ↦ loan_under ps before later l b r.1 (k, lent.1)
  ]

  none_under : (ps : Estate → ℕ → ℕ → Plot) (n : ℕ) (lent : List Lent) → ((x : Lent) → In x lent → n ≢ x.number)
      → without n (loans_of ts ps lent) ≡ loans_of ts ps lent
  none_under ps n [] h = refl
  none_under ps n (l ∷ lent) h = elim (cases_Bool (eqb n l.number)) [
    | inl e ↦ absurd (h l (inl refl) (eqb-true n l.number e))
    | inr e ↦ rw e (ap (λ (z : List Loan). loan_of ts ps l lent ∷ z) (none_under ps n lent (λ x i. h x (inr i))))
  ]

  -- what is out without an image: those before it hold what they held, where the images after it and the trees now hold at its
  -- pieces what it held; and those after it, where nothing changed in their tracts
  pub loans_gone : (ps qs : Estate → ℕ → ℕ → Plot) (before later : List Lent) (l : Lent) → Rises (before ++ l ∷ later)
      → ((x : Lent) → In x before → EachOf x (λ c e. was qs later c e ≡ was ps (l ∷ later) c e))
      → ((x : Lent) → In x later → EachOf x (λ c e. now ts qs c e ≡ now ts ps c e))
      → loans_of ts qs (before ++ later) ≡ without l.number (loans_of ts ps (before ++ l ∷ later))
  loans_gone ps qs [] later l r f g = loans_agree ps qs later g
      ∙ sym (none_under ps l.number later (λ x i e. let h = r.0 x i in omega (arith, h, e)))
      ∙ (let same = eq-eqb l.number l.number refl in rw same refl)
  loans_gone ps qs (y ∷ before) later l r f g = elim (cases_Bool (eqb l.number y.number)) [
    | inl e ↦ absurd (let h = r.0 l (in_middle l before later) in let k = eqb-true l.number y.number e in omega (arith, h, k))
    | inr e ↦ rw e (λ i.
        loan_same ps qs y (before ++ l ∷ later) (before ++ later) (λ c plant h x.
        held_join ts x (y ∷ before) later (in_township ts c) (in_section c) (in_square c) (now ts qs c x)
        ∙ ap (before_now (y ∷ before) c x) (f y (inl refl) c plant h x)
        ∙ sym (held_join ts x (y ∷ before) (l ∷ later) (in_township ts c) (in_section c) (in_square c) (now ts ps c x))) i
        ∷ loans_gone ps qs before later l r.1 (λ x j. f x (inr j)) g i)
  ]

  -- ---- which cells an image has

  -- a cell that a part of an image has is one of its tract's
  pub lies_has : (l : Lent) (e : Estate) (c : Cell) → IsBacked ts l → is_plant_cell depth ts c ≡ true → lies e l c ≡ true
      → has l.land c ≡ true
  lies_has l e c backed plant f =
      let p = has_in (paths (lent_pieces ts l e (in_township ts c) (in_section c))) (in_square c) f in
      sym (tract_has ts l.land c backed.within plant)
      ∙ has_from (ways_in ts l.land (in_township ts c) (in_section c)) p.0 (in_square c) (at_cell ts c (in_ways backed e) plant p.0 p.1) p.2

  -- an image has no part with a cell outside of its tract
  pub lies_not : (l : Lent) (e : Estate) (c : Cell) → IsBacked ts l → is_plant_cell depth ts c ≡ true → (has l.land c ≡ true → ⊥)
      → lies e l c ≡ false
  lies_not l e c backed plant h = false_from_ne_true (lies e l c) (λ f. h (lies_has l e c backed plant f))

  -- of an image that is taken out, those before it and those after it
  module _ (forest : Forest) {lent less : List Lent} {next n : ℕ} {l : Lent} (out : IsTakenOut n l lent less)
      (kept : IsKept ts forest lent next) where
    pub own_backed : IsBacked ts l
    own_backed = kept.backed l (out_in out)

    pub own_rises : Rises (out.before ++ l ∷ out.later)
    own_rises = subst Rises out.old_is kept.rises

    pub later_in : (x : Lent) → In x out.later → In x lent
    later_in x m = left_in out x (subst (λ (z : List Lent). In x z) (sym out.new_is) (in_right x out.before out.later m))

    later_apart : IsLast n (loans_of ts (plots forest) lent) → (x : Lent) → In x out.later → meets l.land x.land ≡ false
    later_apart last x m = image_apart (λ k. n < k) (plots forest) lent n l x last (out_in out) out.number_is (later_in x m)
        (subst (λ (k : ℕ). k < x.number) out.number_is (more_later x l out.before out.later own_rises m))

    -- no later image has a cell of the last one's tract
    pub none_later : IsLast n (loans_of ts (plots forest) lent) → (c : Cell) → is_plant_cell depth ts c ≡ true
        → has l.land c ≡ true → (e : Estate) (now : Division) → before_now out.later c e now ≡ now
    none_later last c plant h e now = none_holds ts e out.later (in_township ts c) (in_section c) (in_square c) now (λ x m.
        lies_not x e c (kept.backed x (later_in x m)) plant (never l.land x.land c (later_apart last x m) h))

    -- a later image's cells are not the last one's
    pub later_not : IsLast n (loans_of ts (plots forest) lent) → (x : Lent) → In x out.later → EachOf x (λ c e. lies e l c ≡ false)
    later_not last x m c plant h e = lies_not l e c own_backed plant (λ f. never l.land x.land c (later_apart last x m) f h)

    -- nor an earlier one's the first one's
    pub before_not : IsFirst n (loans_of ts (plots forest) lent) → (x : Lent) → In x out.before → EachOf x (λ c e. lies e l c ≡ false)
    before_not first x m c plant h e = lies_not l e c own_backed plant (λ f. never l.land x.land c
        (image_apart (λ k. k < n) (plots forest) lent n l x first (out_in out) out.number_is
        (left_in out x (subst (λ (z : List Lent). In x z) (sym out.new_is) (in_left x out.before out.later m)))
        (subst (λ (k : ℕ). x.number < k) out.number_is (less_before x l out.before out.later own_rises m))) f h)
