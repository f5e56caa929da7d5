-- A list of one part whose steps are quarters is the square of these quarters, and a half before them is its half.
use Rattle.std.proofs.Common.{◌≡◌, ◌∙◌, ◌==◌, false, ◌<◌, List, [], ◌∷◌, Some, length, drop, get_or, refl, sym, ap, subst, arith, drop-cons}
use Rattle.title_land.specs.{Depth.{depth}, declared.{grid.Grid.{Grid}, rectangle.{Half.{Half}, Quarter.{Quarter}, Rectangle.{Rectangle}}}}
use Rattle.title_land.specs.{declared.rectangle.Step.{Step}, Grids.{grid_of}, Nodes.{square}, Rectangles.{half_of, holds, part_of}}
use Rattle.title_land.specs.declared.rectangle.Step.TheVariants as step
use Rattle.title_aliquot.specs.{declared.syntax.Entry.{Entry}, Entries.{leading, parts_in}, Laws.Lands.{PartsStand, parts_stand_as}}
use Rattle.title_aliquot.{specs.Squares.{IsSquared, IsHalf}, proofs.Spellings.{steps_of}}
use Rattle.title_aliquot.proofs.NodeCovers.{one_union, part_is_square, part_is_half, part_stands}
use Rattle.title_aliquot.specs.declared.syntax.Entry.TheVariants as entry

pub some_entry : (es : List Entry) → (length es == 0) ≡ false → 0 < length es
some_entry [] h = absurd cc
some_entry (e ∷ es) h = omega arith

-- the steps behind the entry that begins a part
one_part : (es : List Entry) (steps : List Step) → leading es ≡ [] → 0 < length es → leading (drop 1 es) ≡ steps
    → parts_in (drop 1 es) ≡ [] → parts_in es ≡ steps ∷ []
one_part [] steps h l e k = absurd (omega arith)
one_part (entry.Part ∷ es) steps h l e k = rw (e, k) refl
one_part (entry.Step s ∷ es) steps h l e k = absurd cc

-- the cells of one rectangle stand for the one part that is it
one_stands : (es : List Entry) (steps : List Step) (r : Rectangle) → parts_in es ≡ steps ∷ [] → part_of depth steps ≡ Some r
    → PartsStand (parts_in es) (grid_of depth (holds r))
one_stands es steps r e k =
    let stands = part_stands steps r k in
    let same = subst (λ (g : Grid). PartsStand (steps ∷ []) g) (one_union depth r) stands in
    parts_stand_as (steps ∷ []) (parts_in es) _ (sym e) same

pub square_stands : (es : List Entry) (w : List Quarter) → leading es ≡ [] → 0 < length es → IsSquared (drop 1 es) w
    → PartsStand (parts_in es) (grid_of depth (holds (square depth w)))
square_stands es w h l k =
    one_stands es (steps_of w) (square depth w) (one_part es (steps_of w) h l k.steps k.alone) (part_is_square depth w k.short)

-- a half and then the quarters of a square
pub half_stands : (es : List Entry) (d : Entry) (h : Half) (w : List Quarter) → leading es ≡ [] → 1 < length es
    → get_or es 1 d ≡ entry.Step (step.Half h) → IsSquared (drop 2 es) w → length w < depth → IsHalf (parts_in es) h w
half_stands es d h w b l e k wide =
    let there : drop 1 es ≡ entry.Step (step.Half h) ∷ drop 2 es = rw (drop-cons es 1 d l, e) refl in
    let steps : leading (drop 1 es) ≡ step.Half h ∷ steps_of w =
    ap leading there ∙ ap (λ (z : List Step). step.Half h ∷ z) k.steps in
    let alone : parts_in (drop 1 es) ≡ [] = ap parts_in there ∙ k.alone in
    record {
      stands = one_stands es (step.Half h ∷ steps_of w) (half_of h (square depth w))
          (one_part es (step.Half h ∷ steps_of w) b (omega arith) steps alone) (part_is_half depth h w wide);
      wide = wide;
    }
