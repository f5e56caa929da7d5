-- Townships, sections and cells that compare alike are one, so that a map finds one exactly there.
use Rattle.std.proofs.{Common.{◌≡◌, ℕ, Bool, true, false, ◌&&◌, refl, sym, ap, ◌∙◌}, lemmas.Map.Lookups.{exact_unsigned}}
use Rattle.std.{proofs.lemmas.Bool.{and_parts, and_from, eqb-true, eq-eqb, false_from_ne_true, true≢false}, specs.BTreeMap.{is_at}}
use Rattle.std.specs.{declared.cmp.Ordering.{Ordering, TheVariants.{Less, Equal, Greater}}, Ordering.{nat_cmp, bool_cmp, ordering_then}}
use Rattle.std.specs.Cmp.{Equal-is, tied_itself, nat_cmp_total, bool_cmp_total}
use Rattle.title_land.specs.{declared.survey.{Township.{Township}, Section.{Section}, Cell.{Cell}}, CellLists.{same_cell}}
use Rattle.title_land.specs.{Survey.{same_flag, same_township, same_section}, Orders.{township_cmp, section_cmp, cell_cmp}}
use Rattle.title_land.specs.Laws.SameLand.{same_township-is, same_township-self, same_section-is, same_section-self}

-- a map whose order ties only equal keys finds a key exactly there
pub found_at :
    {K : Type 0} (cmp : K → K → Ordering) (same : K → K → Bool) (k q : K) →
    (same q k ≡ true → q ≡ k) → (cmp k q ≡ Equal → k ≡ q) → cmp k k ≡ Equal → same k k ≡ true → is_at (cmp k) q ≡ same q k
found_at {K} cmp same k q is tied self alike = go (same q k) refl
  where
    go : (t : Bool) → same q k ≡ t → is_at (cmp k) q ≡ t
    go true e = (Equal-is (cmp k q)).1 (ap (cmp k) (is e) ∙ self)
    go false e = false_from_ne_true _ (λ h. true≢false (sym (ap (λ (x : K). same x k) (sym (tied ((Equal-is (cmp k q)).0 h))) ∙ alike) ∙ e))

-- ---- alike in each part

pub then_parts : (a b : Ordering) → ordering_then a b ≡ Equal → (a ≡ Equal) × (b ≡ Equal)
then_parts Less b h = absurd cc
then_parts Equal b h = (refl, h)
then_parts Greater b h = absurd cc

flag_tied : (a b : Bool) → bool_cmp a b ≡ Equal → same_flag a b ≡ true
flag_tied true true h = refl
flag_tied true false h = absurd cc
flag_tied false true h = absurd cc
flag_tied false false h = refl

township_same : (t u : Township) → township_cmp t u ≡ Equal → same_township t u ≡ true
township_same t u h =
    let number = then_parts (nat_cmp t.number u.number) _ h in
    let north = then_parts (bool_cmp t.north u.north) _ number.1 in
    let range = then_parts (nat_cmp t.range u.range) (bool_cmp t.east u.east) north.1 in
    and_from _ _ (and_from _ _ (and_from _ _ (eq-eqb t.number u.number (exact_unsigned t.number u.number number.0))
    (flag_tied t.north u.north north.0))
    (eq-eqb t.range u.range (exact_unsigned t.range u.range range.0))) (flag_tied t.east u.east range.1)

section_same : (s u : Section) → section_cmp s u ≡ Equal → same_section s u ≡ true
section_same s u h =
    let parts = then_parts (township_cmp s.township u.township) (nat_cmp s.number u.number) h in
    and_from _ _ (township_same s.township u.township parts.0) (eq-eqb s.number u.number (exact_unsigned s.number u.number parts.1))

cell_same : (a b : Cell) → cell_cmp a b ≡ Equal → same_cell a b ≡ true
cell_same a b h =
    let parts = then_parts (section_cmp a.section b.section) _ h in
    let grid = then_parts (nat_cmp a.row b.row) (nat_cmp a.column b.column) parts.1 in
    and_from _ _ (and_from _ _ (section_same a.section b.section parts.0) (eq-eqb a.row b.row (exact_unsigned a.row b.row grid.0)))
    (eq-eqb a.column b.column (exact_unsigned a.column b.column grid.1))

pub township_tied : (t u : Township) → township_cmp t u ≡ Equal → t ≡ u
township_tied t u h = same_township-is t u (township_same t u h)

pub section_tied : (s u : Section) → section_cmp s u ≡ Equal → s ≡ u
section_tied s u h = same_section-is s u (section_same s u h)

-- cells that are one by their fields are one value
pub cell_is : (a b : Cell) → same_cell a b ≡ true → a ≡ b
cell_is a b h =
    let column = and_parts (same_section a.section b.section && _) _ h in
    let row = and_parts (same_section a.section b.section) _ column.0 in
    let s = same_section-is a.section b.section row.0 in
    let r = eqb-true a.row b.row row.1 in
    let k = eqb-true a.column b.column column.1 in
    λ i. record { section = s i; row = r i; column = k i }

pub same_cell-self : (a : Cell) → same_cell a a ≡ true
same_cell-self a = and_from _ _ (and_from _ _ (same_section-self a.section) (eq-eqb a.row a.row refl)) (eq-eqb a.column a.column refl)

-- ---- each key compares alike to itself

number_self : (n : ℕ) → nat_cmp n n ≡ Equal
number_self n = tied_itself nat_cmp_total n

flag_self : (a : Bool) → bool_cmp a a ≡ Equal
flag_self a = tied_itself bool_cmp_total a

township_self : (t : Township) → township_cmp t t ≡ Equal
township_self t = rw (number_self t.number, flag_self t.north, number_self t.range, flag_self t.east) refl

section_self : (s : Section) → section_cmp s s ≡ Equal
section_self s = rw (township_self s.township, number_self s.number) refl

cell_self : (a : Cell) → cell_cmp a a ≡ Equal
cell_self a = rw (section_self a.section, number_self a.row, number_self a.column) refl

-- ---- a map finds a key exactly at that key

pub township_at : (t q : Township) → is_at (township_cmp t) q ≡ same_township q t
township_at t q = found_at township_cmp same_township t q (same_township-is q t) (township_tied t q) (township_self t)
    (same_township-self t)

pub section_at : (s q : Section) → is_at (section_cmp s) q ≡ same_section q s
section_at s q = found_at section_cmp same_section s q (same_section-is q s) (section_tied s q) (section_self s) (same_section-self s)

pub cell_at : (a q : Cell) → is_at (cell_cmp a) q ≡ same_cell q a
cell_at a q = found_at cell_cmp same_cell a q (cell_is q a) (λ h. cell_is a q (cell_same a q h)) (cell_self a) (same_cell-self a)
