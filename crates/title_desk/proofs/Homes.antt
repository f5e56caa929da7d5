-- What stands under the numbers of homes, and what is left there after a post.
use Rattle.std.proofs.Common.{◌≡◌, ◌≢◌, ◌+◌, ◌≤◌, ℕ, Bool, true, false, ◌&&◌, ◌||◌, cond, eqb, List, [], Option, Some, get_or, Result, Ok}
use Rattle.std.{proofs.Common.{Err, OnOk, OnErr, inl, inr, arith, refl, sym, ap, subst, ◌∙◌}, specs.{List.{All, filter}, Map.{lookup}}}
use Rattle.std.proofs.lemmas.Bool.{false_from_ne_true, both_ways, and_parts, or_parts, not-true, eq-eqb, cases_eq, cases_Bool}
use Rattle.std.{proofs.lemmas.List.Elements.{All-nil, All-weaker, All-filter, filter_passes}, specs.Ordering.{nat_cmp}}
use Rattle.std.specs.{BTreeMap.{BTreeMap, get, is_at, Updates, IsUnchanged}, Cmp.{unsigned_tied}}
use Rattle.title_instrument.specs.{declared.parts.Estates.{Estates}, Estates.{names}, Owners.{holding_of}}
use Rattle.title_land.specs.{Depth.{depth}, Lands.{home_of, meets}, Grids.{has_some, grids_meet}, NodeNumbers.{node_number}}
use Rattle.title_land.specs.{Survey.{same_township, same_section}, Nodes.{same_node, is_above, are_related}, Laws.SameNode.{same_node-is}}
use Rattle.title_land.specs.{Laws.NodeNumbers.{same_square_number, number_at}, declared.survey.{Cell.{Cell}, Section.{Section}}}
use Rattle.title_land.specs.{Laws.SameLand.{same_township-is, same_township-self, same_section-is}, declared.survey.Township.{Township}}
use Rattle.title_land.specs.declared.{tract.Land.{Land}, node.Node.{Node}}
use Rattle.title_store.specs.{Plants.{Plant, is_cell_of}, Laws.{SheetLaws.{sheet_same}, SheetParts.{part_same}, Taken.{case_eqb}}}
use Rattle.title_chain.specs.Laws.AskLaws.{cell_meets}
use Rattle.title_desk.specs.declared.kept_sheets.{Kept.{Kept}, Home.{Home}, KeptSheets.{KeptSheets}}
use Rattle.title_desk.specs.Shown.{IsTrue, land_in, is_left, Stock, no_stock, left_of, all_kept, kept_in, kept_under, IsSetUnder, IsKept}
use Rattle.title_desk.specs.Shown.{AllKept, AreKept, SameOutside, SameBut, AreLeft, OthersStay, ApartStay}
use Rattle.title_land.specs.declared.node.Node.TheVariants as node
use Rattle.title_land.specs.declared.tract.Land.TheVariants as land
use Rattle.title_desk.specs.declared.kept_sheets.Kept.TheVariants as what

-- ---- what stands under a number

pub none_kept : (ts : List Township) (p : Plant) (k : ℕ) → AllKept ts p k no_stock
none_kept ts p k = (All-nil (λ x. IsKept ts p k (what.Sheet x)), All-nil (λ x. IsKept ts p k (what.Quarter x)))

-- what was filtered of a home is what is left of it
pub left_home : (land : Land) (estates : Estates) (old new : Home)
    → new.shown.items ≡ filter (λ x. is_left land estates (what.Sheet x)) old.shown.items
    → new.quarters.items ≡ filter (λ x. is_left land estates (what.Quarter x)) old.quarters.items
    → all_kept new ≡ left_of land estates (all_kept old)
unfolding all_kept
left_home land estates old new sheets parts = λ i. (sheets i, parts i)

kept_cond : (b : Bool) (x y : Option Home) → kept_in (cond b x y) ≡ cond b (kept_in x) (kept_in y)
kept_cond true x y = refl
kept_cond false x y = refl

-- sheets after the map of homes was written at a number
pub set_under : (k : ℕ) (o : Option Home) (old new : BTreeMap ℕ Home)
    → ((j : ℕ) → get nat_cmp new j ≡ cond (is_at (nat_cmp k) j) o (get nat_cmp old j))
    → (j : ℕ) → kept_in (get nat_cmp new j) ≡ cond (eqb k j) (kept_in o) (kept_in (get nat_cmp old j))
set_under k o old new writes j = ap kept_in (writes j ∙ ap (λ (b : Bool). cond b o (get nat_cmp old j)) (unsigned_tied k j))
    ∙ kept_cond (eqb k j) o (get nat_cmp old j)

-- what stands under one number was changed and is the plant's, and so is what stands under another
kept_at : (ts : List Township) (p : Plant) (k j : ℕ) (xs : Stock) (old new : KeptSheets) → IsSetUnder k xs old new → AllKept ts p k xs
    → (k ≢ j → AllKept ts p j (kept_under old j)) → AllKept ts p j (kept_under new j)
kept_at ts p k j xs old new set here there =
    subst (λ (ys : Stock). AllKept ts p j ys) (sym (set j)) (case_eqb (λ b. AllKept ts p j (cond b xs (kept_under old j))) k j
    (λ same. subst (λ (n : ℕ). AllKept ts p n xs) same here) there)

-- the sheets under one number were changed, and are the plant's
pub kept_set : (ts : List Township) (p : Plant) (k : ℕ) (xs : Stock) (old new : KeptSheets) → IsSetUnder k xs old new
    → AllKept ts p k xs → AreKept ts p old → AreKept ts p new
kept_set ts p k xs old new set here are = record { each = λ j. kept_at ts p k j xs old new set here (λ _. are.each j) }

-- a home was put in under a number, or all stayed as it was
pub kept_put : {T E : Type 0} (r : Result T E) (ts : List Township) (p : Plant) (k : ℕ) (home : Home) (old new : KeptSheets)
    → OnOk r (Updates nat_cmp old.homes new.homes k (Some home)) → OnErr r (IsUnchanged old.homes new.homes)
    → AllKept ts p k (all_kept home) → AreKept ts p old → AreKept ts p new
kept_put (Ok x) ts p k home old new updates same here are =
    kept_set ts p k (all_kept home) old new (set_under k (Some home) old.homes new.homes updates.0) here are
kept_put (Err x) ts p k home old new updates same here are = record {
  each = λ j. subst (λ (es : List (ℕ × Home)). AllKept ts p j (kept_in (lookup (is_at (nat_cmp j)) es))) (sym same) (are.each j);
}

-- ---- after a post

filtered : {X : Type 0} (test : X → Bool) (P Q : X → Type 0) (xs : List X) → ((x : X) → test x ≡ true → P x → Q x) → All P xs
    → All Q (filter test xs)
filtered test P Q xs stays all i d below =
    stays (get_or (filter test xs) i d) (filter_passes test xs i d below) (All-filter test P xs all i d below)

module _ (ts : List Township) (land : Land) (p q : Plant) (outside : SameOutside ts land p q) where
  -- the cells of a tract that shares none with the land of a post
  untouched : (x : Land) → meets x land ≡ false → (c : Cell) → is_cell_of depth ts x c ≡ true → p c ≡ q c
  untouched x away c inside = sym (outside c (false_from_ne_true _ (λ k. both_ways _ away (cell_meets depth ts x land c inside k))))

  -- what is kept of a tract that shares no cell with the land of a post
  apart : (x : Kept) → meets (land_in x) land ≡ false → IsTrue ts p x → IsTrue ts q x
  apart (what.Sheet shown) away is = is ∙ sheet_same depth ts shown.tract p q (untouched shown.tract away)
  apart (what.Quarter one) away is =
      is ∙ part_same depth ts one.tract p q one.estate (λ c inside. ap (holding_of one.estate) (untouched one.tract away c inside))

  -- what is left after a post
  left_stays : (estates : Estates) → SameBut estates p q → (x : Kept) → is_left land estates x ≡ true → IsTrue ts p x → IsTrue ts q x
  left_stays estates same (what.Sheet shown) left is = apart (what.Sheet shown) (not-true (meets shown.tract land) left) is
  left_stays estates same (what.Quarter one) left is = elim (cases_Bool (names estates one.estate)) [
    | inl named ↦ apart (what.Quarter one)
        (sym (ap (λ (b : Bool). b && meets one.tract land) named) ∙ not-true (names estates one.estate && meets one.tract land) left) is
    | inr none ↦ is ∙ part_same depth ts one.tract p q one.estate (λ c inside. sym (same c one.estate none))
  ]

  -- the sheets of a home none of whose tracts shares a cell with the land
  away_stay : (k : ℕ) (xs : Stock) → ((x : Land) → node_number (home_of x) ≡ k → meets x land ≡ false) → AllKept ts p k xs
      → AllKept ts q k xs
  away_stay k xs away all = (
    All-weaker (λ x. IsKept ts p k (what.Sheet x)) (λ x. IsKept ts q k (what.Sheet x))
        (λ x h. (apart (what.Sheet x) (away x.tract h.1) h.0, h.1)) xs.0 all.0,
    All-weaker (λ x. IsKept ts p k (what.Quarter x)) (λ x. IsKept ts q k (what.Quarter x))
        (λ x h. (apart (what.Quarter x) (away x.tract h.1) h.0, h.1)) xs.1 all.1,
  )

  -- what is left of a home
  left_kept : (estates : Estates) (k : ℕ) (xs : Stock) → SameBut estates p q → AllKept ts p k xs → AllKept ts q k (left_of land estates xs)
  left_kept estates k xs same all = (
    filtered (λ x. is_left land estates (what.Sheet x)) (λ x. IsKept ts p k (what.Sheet x)) (λ x. IsKept ts q k (what.Sheet x)) xs.0
        (λ x left h. (left_stays estates same (what.Sheet x) left h.0, h.1)) all.0,
    filtered (λ x. is_left land estates (what.Quarter x)) (λ x. IsKept ts p k (what.Quarter x)) (λ x. IsKept ts q k (what.Quarter x)) xs.1
        (λ x left h. (left_stays estates same (what.Quarter x) left h.0, h.1)) all.1,
  )

-- ---- lands at different homes of which neither lies above the other share no cell

-- the numbers of homes
abbrev pub section_home : Section → ℕ
section_home s = node_number (node.Part s [])

abbrev pub township_home : Township → ℕ
township_home t = node_number (node.Township t)

abbrev pub plant_home : ℕ
plant_home = node_number node.Everything

-- a home that isn't the section's own, nor above it
section_away : (s : Section) (land : Land) (k : ℕ) → home_of land ≡ node.Part s [] → section_home s ≢ k → township_home s.township ≢ k
    → plant_home ≢ k → (x : Land) → node_number (home_of x) ≡ k → meets x land ≡ false
unfolding meets
section_away s land.Everything k is own above top x home = absurd cc
section_away s (land.Township t) k is own above top x home = absurd cc
section_away s (land.Part u g) k is own above top land.Everything home = absurd (top home)
section_away s (land.Part u g) k is own above top (land.Township t) home =
    let same : u ≡ s = cc in
    false_from_ne_true _ (λ m. above (ap (λ (z : Section). township_home z.township) (sym same)
    ∙ ap township_home (sym (same_township-is t u.township (and_parts (same_township t u.township) (has_some g) m).0)) ∙ home))
section_away s (land.Part u g) k is own above top (land.Part t f) home =
    let same : u ≡ s = cc in
    false_from_ne_true _ (λ m. own (ap section_home (sym same)
    ∙ ap section_home (sym (same_section-is t u (and_parts (same_section t u) (grids_meet f g) m).0)) ∙ home))

-- a home that isn't the township's own, nor above or below it
township_away : (t : Township) (k : ℕ) → ((s : Section) → s.township ≡ t → section_home s ≢ k) → township_home t ≢ k → plant_home ≢ k
    → (x : Land) → node_number (home_of x) ≡ k → meets x (land.Township t) ≡ false
unfolding meets
township_away t k below own top land.Everything home = absurd (top home)
township_away t k below own top (land.Township u) home =
    false_from_ne_true _ (λ m. own (ap township_home (sym (same_township-is u t m)) ∙ home))
township_away t k below own top (land.Part s g) home =
    false_from_ne_true _ (λ m. below s (same_township-is s.township t (and_parts (same_township s.township t) (has_some g) m).0) home)

-- ---- what is left after a post

-- where the township's own home and the plant's are let go at last
higher_gone : (t : Township) (ts : List Township) (q : Plant) (old mid new : KeptSheets) → IsSetUnder (township_home t) no_stock old mid
    → IsSetUnder plant_home no_stock mid new
    → ((k : ℕ) → township_home t ≢ k → plant_home ≢ k → AllKept ts q k (kept_under old k)) → AreKept ts q new
higher_gone t ts q old mid new own top kept = record {
  each = λ k. kept_at ts q plant_home k no_stock mid new top (none_kept ts q plant_home)
      (λ apart. kept_at ts q (township_home t) k no_stock old mid own (none_kept ts q (township_home t)) (λ other. kept k other apart));
}

-- a post in a section
pub section_left : (s : Section) (land : Land) (estates : Estates) (old a b new : KeptSheets) → home_of land ≡ node.Part s []
    → IsSetUnder (section_home s) (left_of land estates (kept_under old (section_home s))) old a
    → IsSetUnder (township_home s.township) no_stock a b → IsSetUnder plant_home no_stock b new → AreLeft land estates old new
section_left s land estates old a b new home own above top ts p q outside same are =
    let xs = kept_under old (section_home s) in
    higher_gone s.township ts q a b new above top (λ k other apart. kept_at ts q (section_home s) k (left_of land estates xs) old a own
    (left_kept ts land p q outside estates (section_home s) xs same (are.each (section_home s)))
    (λ away. away_stay ts land p q outside k (kept_under old k) (section_away s land k home away other apart) (are.each k)))

-- a post of a township, where the sections before this one were let go: what stands under another number is each plant's that is the
-- same outside the township, unless it stands under the number of a section that is still to come
abbrev pub AreSwept : Township → ℕ → KeptSheets → KeptSheets → Type 0
AreSwept t next old new = (ts : List Township) (p q : Plant) → SameOutside ts (land.Township t) p q → AreKept ts p old
    → (k : ℕ) → ((s : Section) → s.township ≡ t → next ≤ s.number → section_home s ≢ k) → township_home t ≢ k → plant_home ≢ k
    → AllKept ts q k (kept_under new k)

-- there is no section before the first
pub none_swept : (t : Township) (kept : KeptSheets) → AreSwept t 1 kept kept
none_swept t kept ts p q outside are k below own top = away_stay ts (land.Township t) p q outside k (kept_under kept k)
    (township_away t k (λ s of. below s of (omega (arith, s.numbered.0))) own top) (are.each k)

-- one section more
pub swept_more : (s : Section) (old mid new : KeptSheets) → AreSwept s.township s.number old mid
    → IsSetUnder (section_home s) no_stock mid new → AreSwept s.township (s.number + 1) old new
swept_more s old mid new swept set ts p q outside are k later own top =
    kept_at ts q (section_home s) k no_stock mid new set (none_kept ts q (section_home s))
    (λ other. swept ts p q outside are k (λ u of low is. elim (cases_eq u.number s.number) [
      | inl one ↦ other (sym (same_square_number u s [] of one) ∙ is)
      | inr differ ↦ later u of (omega arith) is
    ]) own top)

pub township_left : (t : Township) (old a b new : KeptSheets) → AreSwept t 37 old a → IsSetUnder (township_home t) no_stock a b
    → IsSetUnder plant_home no_stock b new → (estates : Estates) → AreLeft (land.Township t) estates old new
township_left t old a b new swept own top estates ts p q outside same are =
    higher_gone t ts q a b new own top (λ k. swept ts p q outside are k (λ s of low. absurd (omega (arith, s.numbered.1))))

-- ---- what stays after a post

-- under the number of another node nothing changes
set_elsewhere : (a n : Node) (xs : Stock) (old new : KeptSheets) → IsSetUnder (node_number a) xs old new → same_node n a ≡ false
    → kept_under new (node_number n) ≡ kept_under old (node_number n)
set_elsewhere a n xs old new set other =
    set (node_number n) ∙ ap (λ (b : Bool). cond b xs (kept_under old (node_number n))) (number_at a n ∙ other)

-- the sheets stay that stand at no home near the section's
pub section_others : (s : Section) (land : Land) (xs : Stock) (old a b new : KeptSheets) → home_of land ≡ node.Part s []
    → IsSetUnder (section_home s) xs old a → IsSetUnder (township_home s.township) no_stock a b → IsSetUnder plant_home no_stock b new
    → OthersStay land old new
section_others s land xs old a b new home own above top n far =
    let apart = subst (λ (h : Node). are_related n h ≡ false) home far in
    let parts = or_parts (same_node n (node.Part s [])) _ apart in
    let higher = (or_parts (is_above n (node.Part s [])) (is_above (node.Part s []) n) parts.1).0 in
    let rest = or_parts (same_node n (node.Township s.township)) _ higher in
    let last = or_parts (same_node n node.Everything) false rest.1 in
    set_elsewhere node.Everything n no_stock b new top last.0
    ∙ set_elsewhere (node.Township s.township) n no_stock a b above rest.0 ∙ set_elsewhere (node.Part s []) n xs old a own parts.0

-- the sheets of the section stay that share no cell with the land
pub section_apart : (s : Section) (land : Land) (estates : Estates) (old a b new : KeptSheets) → home_of land ≡ node.Part s []
    → IsSetUnder (section_home s) (left_of land estates (kept_under old (section_home s))) old a
    → IsSetUnder (township_home s.township) no_stock a b → IsSetUnder plant_home no_stock b new → ApartStay land estates old new
section_apart s land estates old a b new home own above top u same =
    let left = left_of land estates (kept_under old (section_home s)) in
    let one : node.Part s [] ≡ node.Part u [] = sym home ∙ same in
    subst (λ (n : Node). kept_under new (node_number n) ≡ left_of land estates (kept_under old (node_number n))) one
    (set_elsewhere node.Everything (node.Part s []) no_stock b new top refl
    ∙ set_elsewhere (node.Township s.township) (node.Part s []) no_stock a b above refl ∙ own (section_home s)
    ∙ ap (λ (x : Bool). cond x left (kept_under old (section_home s))) (eq-eqb (section_home s) (section_home s) refl))

-- no sheet went but of the township's sections
abbrev pub OutsideStay : Township → KeptSheets → KeptSheets → Type 0
OutsideStay t old new = (n : Node) → is_above (node.Township t) n ≡ false → kept_under new (node_number n) ≡ kept_under old (node_number n)

above_section : (s : Section) → is_above (node.Township s.township) (node.Part s []) ≡ true
above_section s = ap (λ (b : Bool). b || false) (same_township-self s.township)

-- one section more
pub outside_more : (s : Section) (old mid new : KeptSheets) → OutsideStay s.township old mid
    → IsSetUnder (section_home s) no_stock mid new → OutsideStay s.township old new
outside_more s old mid new stay set n far = set_elsewhere (node.Part s []) n no_stock mid new set
    (false_from_ne_true _ (λ same. both_ways _ far
    (ap (is_above (node.Township s.township)) ((same_node-is n (node.Part s [])).0 same) ∙ above_section s))) ∙ stay n far

-- the sheets stay that stand at no home near the township's
pub township_others : (t : Township) (old a b new : KeptSheets) → OutsideStay t old a → IsSetUnder (township_home t) no_stock a b
    → IsSetUnder plant_home no_stock b new → OthersStay (land.Township t) old new
township_others t old a b new stay own top n far =
    let parts = or_parts (same_node n (node.Township t)) _ far in
    let sides = or_parts (is_above n (node.Township t)) (is_above (node.Township t) n) parts.1 in
    let last = or_parts (same_node n node.Everything) false sides.0 in
    set_elsewhere node.Everything n no_stock b new top last.0 ∙ set_elsewhere (node.Township t) n no_stock a b own parts.0 ∙ stay n sides.1
