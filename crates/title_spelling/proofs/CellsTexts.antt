-- What the bytes of a text in the cells form are.
use Rattle.std.proofs.Common.{◌≡◌, ◌∙◌, ℕ, ◌+◌, ◌-◌, ◌<◌, false, List, ◌++◌, length, take, drop, get_or, refl, ap, arith}
use Rattle.std.{proofs.Common.{length-append, Option, None, eqb}, specs.{Prelude.{codes}, List.{starts_with}, Str.{IsCharBoundary}}}
use Rattle.std.proofs.{lemmas.List.{drop_at, length-drop, take_all}, Math.Seq.{get_or-append_seam}}
use Rattle.title_land.specs.{declared.{grid.Grid.{Grid}, survey.Section.{Section}}, Depth.{depth}, Grids.{grid_has, grid_of}}
use Rattle.title_land.specs.Texts.{section_text}
use Rattle.title_plan.specs.Lands.{land_in}
use Rattle.title_spelling.{specs.Cells.{cells_in, if_spelled, is_marked, marked_in, rows_text, section_of}, proofs.CellsForm.{rows_length}}
use Rattle.title_spelling.proofs.{CellsRead.{two_parts}, Spelled.{no_form, IsCellsForm}}

abbrev behind : Grid → List ℕ
behind g = codes " cells" ++ rows_text (grid_has g)

parts_are : (text : List ℕ) (form : IsCellsForm text) → text ≡ section_text form.section ++ behind form.cells
parts_are text form = form.text_is ∙ two_parts form.section form.cells

behind_long : (g : Grid) → length (behind g) ≡ 86
behind_long g = let rows = rows_length (grid_has g) in omega (arith, rows)

long : (text : List ℕ) (form : IsCellsForm text) → length text ≡ length (section_text form.section) + 86
long text form =
    let e = ap length (parts_are text form) ∙ length-append (section_text form.section) (behind form.cells) in
    let b = behind_long form.cells in
    omega (arith, e, b)

-- a short text is in no cells form
pub too_short : (text : List ℕ) → length text < 86 → None ≡ cells_in text
too_short text h = no_form text (λ form. let e = long text form in omega (arith, e))

-- the last bytes of one in the cells form begin with the word
last_bytes : (text : List ℕ) (form : IsCellsForm text) → drop (length text - 86) text ≡ behind form.cells
last_bytes text form =
    let e = long text form in
    ap (λ (t : List ℕ). drop (length text - 86) t) (parts_are text form)
    ∙ drop_at (section_text form.section) (behind form.cells) (length text - 86) (omega (arith, e))

seam : (text : List ℕ) (form : IsCellsForm text) → get_or text (length text - 86) 0 ≡ 32
seam text form =
    let e = long text form in
    let at : length text - 86 ≡ length (section_text form.section) = omega (arith, e) in
    ap (λ (i : ℕ). get_or text i 0) at
    ∙ ap (λ (t : List ℕ). get_or t (length (section_text form.section)) 0) (parts_are text form)
    ∙ get_or-append_seam (section_text form.section) 32 (codes "cells" ++ rows_text (grid_has form.cells)) 0

-- a text that can't be cut before them is in no cells form
pub not_cut : (text : List ℕ) → (IsCharBoundary text (length text - 86) → ⊥) → None ≡ cells_in text
not_cut text h = no_form text (λ form. let s = seam text form in h (omega arith, λ lt high. omega (arith, s, high)))

-- nor one whose last bytes begin with another word
pub other_word : (text tail : List ℕ) → tail ≡ drop (length text - 86) text → false ≡ starts_with eqb tail (codes " cells")
    → None ≡ cells_in text
other_word text tail tail_is h = no_form text (λ form.
    let e = h ∙ ap (λ (t : List ℕ). starts_with eqb t (codes " cells")) (tail_is ∙ last_bytes text form) in absurd (cc e))

-- what is read by the section before them and their cells
pub read_by : (text front : List ℕ) (s : Option Section) (g : Grid) → front ≡ take (length text - 86) text → s ≡ section_of (land_in front)
    → g ≡ marked_in text → if_spelled text s g ≡ cells_in text
unfolding cells_in
read_by text front s g front_is section_is cells_are = rw (section_is, front_is, cells_are) refl

-- the last bytes mark the cells
pub last_marked : (text bytes : List ℕ) (g : Grid) → bytes ≡ text
    → g ≡ grid_of depth (is_marked (take (length bytes - (length bytes - 80)) (drop (length bytes - 80) bytes))) → g ≡ marked_in text
last_marked text bytes g same e =
    let rest = drop (length bytes - 80) bytes in
    let whole : take (length bytes - (length bytes - 80)) rest ≡ rest =
    take_all (length bytes - (length bytes - 80)) rest (omega (arith, length-drop (length bytes - 80) bytes)) in
    e ∙ ap (λ (rows : List ℕ). grid_of depth (is_marked rows)) whole
    ∙ ap (λ (t : List ℕ). grid_of depth (is_marked (drop (length t - 80) t))) same
