-- The area of a list of parts, entry by entry from its end.
use Rattle.std.proofs.Common.{◌≡◌, ◌∙◌, ℕ, zero, suc, ◌+◌, ◌<◌, Bool, true, false, ◌&&◌, ◌||◌, List, [], ◌∷◌, length, drop, get_or, refl}
use Rattle.std.{proofs.Common.{sym, ap, arith, drop-cons, add-one, Option, Some, None}, specs.{Option.{is_some}, Prelude.{option_and_then}}}
use Rattle.std.proofs.lemmas.Bool.Decides.{Decides-or}
use Rattle.title_land.specs.declared.{grid.Grid.{Grid}, rectangle.{Rectangle.{Rectangle}, Step.{Step}}}
use Rattle.title_land.specs.{Rectangles.{section_square, part_of, step_of, InSection}, Grids.{with_rectangle, grids_meet}}
use Rattle.title_aliquot.specs.{declared.{meaning.Area.{Area}, syntax.Entry.{Entry}}, Areas.{IsArea, IsAreaOf}, Entries.{leading, parts_in}}
use Rattle.title_aliquot.specs.{Meaning.{parts_exist}, Laws.Shapes.{union_next, shared_decides}}
use Rattle.title_aliquot.specs.declared.syntax.Entry.TheVariants as entry

-- ---- one more rectangle

pub area_next : (depth : ℕ) (r : Rectangle) (shapes : List Rectangle) (before none after : Area) (alone : Grid) → InSection depth r →
    IsArea depth shapes before →
    IsArea depth [] none → alone ≡ with_rectangle depth none.cells r → after.cells ≡ with_rectangle depth before.cells r →
    after.overlap ≡ (grids_meet before.cells alone || before.overlap) → IsArea depth (r ∷ shapes) after
area_next depth r shapes before none after alone inside is empty e k o =
    let one = union_next depth r [] none.cells alone empty.cells_are e in
    let shared = shared_decides depth r shapes before.cells alone inside is.cells_are one in
    record {
      cells_are = union_next depth r shapes before.cells after.cells is.cells_are k;
      decides = rw o (Decides-or (grids_meet before.cells alone) before.overlap shared is.decides);
    }

-- ---- one more entry

-- the entries from some index on: what is left of the section for the steps before the first part, and the area of the parts
pub record Walked (depth : ℕ) (es : List Entry) (shape : Rectangle) (a : Area) : Type 0 where
  pub shape_is : part_of depth (leading es) ≡ Some shape
  pub inside : InSection depth shape
  pub parts : IsAreaOf depth (parts_in es) a

pub walked_nothing : (depth : ℕ) (a : Area) → IsArea depth [] a → Walked depth [] (section_square depth) a
walked_nothing depth a is = record { shape_is = refl; inside = (omega arith, omega arith); parts = record { exist = refl; area = is } }

-- ---- a part that doesn't exist

and_false : (a : Bool) → (a && false) ≡ false
and_false true = refl
and_false false = refl

abbrev all_exist : ℕ → List Entry → Bool
all_exist depth es = is_some (part_of depth (leading es)) && parts_exist depth (parts_in es)

stays_missing : (s : Step) (m : Option Rectangle) (b : Bool) → (is_some m && b) ≡ false →
    (is_some (option_and_then (step_of s) m) && b) ≡ false
stays_missing s None b h = refl
stays_missing s (Some r) true h = absurd cc
stays_missing s (Some r) false h = and_false (is_some (step_of s r))

-- where one of the parts or the steps before them don't exist, an entry more changes nothing
missing_more : (depth : ℕ) (e : Entry) (es : List Entry) → all_exist depth es ≡ false → all_exist depth (e ∷ es) ≡ false
missing_more depth entry.Part es h = h
missing_more depth (entry.Step s) es h = stays_missing s (part_of depth (leading es)) (parts_exist depth (parts_in es)) h

missing_before : (depth : ℕ) (i : ℕ) (es : List Entry) → all_exist depth (drop i es) ≡ false → all_exist depth es ≡ false
missing_before depth zero es h = h
missing_before depth (suc i) [] h = h
missing_before depth (suc i) (e ∷ es) h = missing_more depth e es (missing_before depth i es h)

nothing_leads : (depth : ℕ) (es : List Entry) → leading es ≡ [] → all_exist depth es ≡ parts_exist depth (parts_in es)
nothing_leads depth es h = ap (λ (z : List Step). is_some (part_of depth z) && parts_exist depth (parts_in es)) h

-- a step that halves a side of one cell stands in a part that doesn't exist
pub part_missing : (depth : ℕ) (es : List Entry) (i : ℕ) (d : Entry) (shape : Rectangle) (a : Area) (s : Step) → leading es ≡ [] →
    i < length es → get_or es i d ≡ entry.Step s →
    Walked depth (drop (i + 1) es) shape a → step_of s shape ≡ None → parts_exist depth (parts_in es) ≡ false
part_missing depth es i d shape a s h l e w k =
    let rest = drop (i + 1) es in
    let none : part_of depth (s ∷ leading rest) ≡ None = ap (λ (z : Option Rectangle). option_and_then (step_of s) z) w.shape_is ∙ k in
    let there : drop i es ≡ entry.Step s ∷ rest = rw (drop-cons es i d l, add-one, e) refl in
    let gone : all_exist depth (entry.Step s ∷ rest) ≡ false = rw none refl in
    sym (nothing_leads depth es h) ∙ missing_before depth i es (ap (λ (z : List Entry). all_exist depth z) there ∙ gone)
