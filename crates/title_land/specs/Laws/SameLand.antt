-- Equal fields make equal townships, sections, squares and nodes.
use Rattle.std.proofs.{Common.{◌≡◌, ℕ, ◌≤◌, Bool, true, false, refl, subst}, Math.Bridge.{le_prop}}
use Rattle.std.proofs.lemmas.Bool.{and_parts, and_from, eqb-true, eq-eqb}
use Rattle.title_land.specs.{declared.survey.{Township.{Township}, Section.{Section}}, Survey.{same_flag, same_township, same_section}}

abbrev Numbered : ℕ → ℕ → Type 0
Numbered top n = (1 ≤ n) × (n ≤ top)

numbered_once : (top n : ℕ) → IsProp (Numbered top n)
numbered_once top n = hlevel le_prop

abbrev township_of : (n : ℕ) (north : Bool) (r : ℕ) (east : Bool) → Numbered 99 n → Numbered 99 r → Township
township_of n north r east h k = record { number = n; north = north; range = r; east = east; numbered = h; ranged = k }

township_equal : (n m : ℕ) (x y : Bool) (r q : ℕ) (z w : Bool) (h : Numbered 99 n) (i : Numbered 99 m) (j : Numbered 99 r) (k : Numbered
    99 q) → n ≡ m → x ≡ y → r ≡ q → z ≡ w → township_of n x r z h j ≡ township_of m y q w i k
township_equal n m x y r q z w h i j k a b c d =
    subst (λ (m2 : ℕ). (i2 : Numbered 99 m2) → township_of n x r z h j ≡ township_of m2 y q w i2 k) a
    (λ i2. subst (λ (q2 : ℕ). (k2 : Numbered 99 q2) → township_of n x r z h j ≡ township_of n y q2 w i2 k2) c
    (λ k2. rw (← b, ← d, numbered_once 99 n i2 h, numbered_once 99 r k2 j) refl) k) i

same_flag-is : (a b : Bool) → same_flag a b ≡ true → a ≡ b
same_flag-is true true h = refl
same_flag-is true false h = absurd cc
same_flag-is false true h = absurd cc
same_flag-is false false h = refl

same_flag-self : (a : Bool) → same_flag a a ≡ true
same_flag-self true = refl
same_flag-self false = refl

-- two townships that are the same by their fields are one value
pub same_township-is : (t u : Township) → same_township t u ≡ true → t ≡ u
same_township-is t u h =
    let east = and_parts _ _ h in
    let range = and_parts _ _ east.0 in
    let north = and_parts _ _ range.0 in
    township_equal t.number u.number t.north u.north t.range u.range t.east u.east t.numbered u.numbered t.ranged u.ranged
    (eqb-true _ _ north.0) (same_flag-is _ _ north.1) (eqb-true _ _ range.1) (same_flag-is _ _ east.1)

pub same_township-self : (t : Township) → same_township t t ≡ true
same_township-self t = and_from _ _ (and_from _ _ (and_from _ _ (eq-eqb t.number t.number refl) (same_flag-self t.north))
    (eq-eqb t.range t.range refl)) (same_flag-self t.east)

abbrev section_of : Township → (n : ℕ) → Numbered 36 n → Section
section_of t n h = record { township = t; number = n; numbered = h }

section_equal : (t u : Township) (n m : ℕ) (h : Numbered 36 n) (i : Numbered 36 m) → t ≡ u → n ≡ m → section_of t n h ≡ section_of u m i
section_equal t u n m h i a b =
    subst (λ (m2 : ℕ). (i2 : Numbered 36 m2) → section_of t n h ≡ section_of u m2 i2) b (λ i2. rw (← a, numbered_once 36 n i2 h) refl) i

-- two sections that are the same by their fields are one value
pub same_section-is : (s u : Section) → same_section s u ≡ true → s ≡ u
same_section-is s u h =
    let k = and_parts _ _ h in
    section_equal s.township u.township s.number u.number s.numbered u.numbered (same_township-is _ _ k.0) (eqb-true _ _ k.1)

pub same_section-self : (s : Section) → same_section s s ≡ true
same_section-self s = and_from _ _ (same_township-self s.township) (eq-eqb s.number s.number refl)
