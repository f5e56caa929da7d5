-- A township's sections, from a number on.
use Rattle.std.{proofs.Common.{◌≡◌, ℕ, suc, ◌+◌, ◌-◌, ◌≤◌, List, [], ◌∷◌, ◌++◌, refl, ap, ◌∙◌, arith}, specs.Prelude.{nat_le, ◌&&◌}}
use Rattle.title_land.specs.{declared.survey.{Township.{Township}, Section.{Section}}, Survey.{IsSection, IsSectionNumber}}
use Rattle.title_land.specs.{CellLists.{sections_from, sections_of, sections_left}, Laws.CellMembers.{section_if-is}}

-- all are left at first
pub left_first : (t : Township) → sections_left t 1 ≡ sections_of t
unfolding sections_left sections_of
left_first t = refl

-- one comes next
pub left_next : (t : Township) (n : ℕ) (s : Section) → IsSection t n s → sections_left t n ≡ s ∷ sections_left t (n + 1)
unfolding sections_left
left_next t n s is =
    let h = s.numbered.1 in
    let e = is.number_is in
    let k : 37 - n ≡ suc (37 - (n + 1)) = omega (arith, h, e) in
    ap (sections_from t n) k
    ∙ ap (λ (xs : List Section). xs ++ sections_from t (n + 1) (37 - (n + 1)))
    (section_if-is t n (nat_le 1 n && nat_le n 36) refl s is)

-- after the last none is left
pub left_none : (t : Township) (n : ℕ) → 1 ≤ n → ¬ (IsSectionNumber n) → sections_left t n ≡ []
unfolding sections_left
left_none t n low f =
    let k : 37 - n ≡ 0 = grind (arith, low, f) in
    ap (sections_from t n) k
