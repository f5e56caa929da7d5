-- The land of a node's text has that node alone as its cover.
use Rattle.std.proofs.Common.{◌≡◌, ℕ, suc, ◌-◌, ◌*◌, ◌^◌, ◌<◌, ◌≤◌, ◌%◌, true, List, [], ◌∷◌, length, Some, None, refl, ap}
use Rattle.std.proofs.{Common.{subst, inl, inr, arith}, lemmas.Bool.{eq-eqb}, Math.Bool.{or-false}}
use Rattle.title_land.specs.{Depth.{depth}, declared.{rectangle.{Quarter.{Quarter}, Step.{Step}, Rectangle.{Rectangle}}, grid.Grid.{Grid}}}
use Rattle.title_land.specs.declared.rectangle.Half.{Half, TheVariants.{North, South, East, West}}
use Rattle.title_land.specs.{declared.node.Node.{Node}, Nodes.{square, IsNode}, Rectangles.{part_of, is_even, exists, half_of, holds}}
use Rattle.title_land.specs.{Grids.{grid_of}, Lands.{land_of}, Laws.{Squares.{sized}, NodeLands.{cover_of-land_of}}}
use Rattle.title_land.specs.declared.rectangle.Step.TheVariants as step
use Rattle.title_land.specs.declared.node.Node.TheVariants as node
use Rattle.title_aliquot.specs.{Meaning.{union, rectangles, Overlap, StandsFor}, Grammar.{SectionSyntax}, TextLaws.{ReadsBack}}
use Rattle.title_aliquot.{specs.Laws.Lands.{township_stands, section_stands, PartsStand}, proofs.Spellings.{steps_of}}
use Rattle.title_aliquot.proofs.NodeTexts.{node_syntax, parts_named, node_says}

-- ---- its part is its square

power_even : (n k : ℕ) → n ≡ 2 ^ suc k → is_even n ≡ true
power_even n k e =
    let twice : 2 ^ suc k ≡ 2 * 2 ^ k = grind arith in
    let even : n % 2 ≡ 0 = omega arith in
    eq-eqb (n % 2) 0 even

-- a square that is no cell has its quarters
quarter_there : (d : ℕ) (q : Quarter) (w : List Quarter) → length (q ∷ w) ≤ d → exists (step.Quarter q) (square d w) ≡ true
quarter_there d q w h =
    let k = d - length (q ∷ w) in
    let z = sized d (suc k) w (omega arith) in
    rw (power_even (square d w).height k z.height_is, power_even (square d w).width k z.width_is) refl

pub part_is_square : (d : ℕ) (w : List Quarter) → length w ≤ d → part_of d (steps_of w) ≡ Some (square d w)
part_is_square d [] h = refl
part_is_square d (q ∷ w) h = rw (part_is_square d w (omega arith)) (rw (quarter_there d q w h) refl)

-- each half of a square that is no cell is there
half_there : (d : ℕ) (h : Half) (w : List Quarter) → length w < d → exists (step.Half h) (square d w) ≡ true
half_there d h w l =
    let k = d - suc (length w) in
    let z = sized d (suc k) w (omega arith) in
    sides h (power_even (square d w).height k z.height_is) (power_even (square d w).width k z.width_is)
  where
    sides : (x : Half) → is_even (square d w).height ≡ true → is_even (square d w).width ≡ true
        → exists (step.Half x) (square d w) ≡ true
    sides North a b = a
    sides South a b = a
    sides East a b = b
    sides West a b = b

pub part_is_half : (d : ℕ) (h : Half) (w : List Quarter) → length w < d
    → part_of d (step.Half h ∷ steps_of w) ≡ Some (half_of h (square d w))
part_is_half d h w l = rw (part_is_square d w (omega arith)) (rw (half_there d h w l) refl)

-- ---- the node's land

-- the cells of one rectangle
pub one_union : (d : ℕ) (r : Rectangle) → grid_of d (union (r ∷ [])) ≡ grid_of d (holds r)
one_union d r = λ i. grid_of d (λ row column. or-false (holds r row column) i)

-- one part overlaps with none
alone : (r : Rectangle) → Overlap (r ∷ []) → ⊥
alone r (inl o) = o
alone r (inr o) = o

-- a part that is there stands alone
pub part_stands : (steps : List Step) (r : Rectangle) → part_of depth steps ≡ Some r
    → PartsStand (steps ∷ []) (grid_of depth (union (r ∷ [])))
part_stands steps r e = record {
  exist = rw e refl;
  apart = λ o. let P : List Rectangle → Type 0 = λ z. Overlap z in let k : rectangles depth (steps ∷ []) ≡ r ∷ [] = rw e refl in
      alone r (subst P k o);
  union_is = ap (λ (z : List Rectangle). grid_of depth (union z)) (let k : r ∷ [] ≡ rectangles depth (steps ∷ []) = rw e refl in k);
}

node_stands : (n : Node) → IsNode depth n → StandsFor depth (node_syntax n) (land_of depth n)
node_stands node.Everything h = record { numbered = tt; exist = refl; apart = λ o. o; land_is = refl }
node_stands (node.Township t) h =
    township_stands (record { township = t.number; north = t.north; range = t.range; east = t.east; section = None }) t
    (record { number_is = refl; north_is = refl; range_is = refl; east_is = refl }) refl
node_stands (node.Part s w) h =
    let t = s.township in
    let x : SectionSyntax = record { number = s.number; parts = parts_named w } in
    let stands = part_stands (steps_of w) (square depth w) (part_is_square depth w h) in
    let same = subst (λ (g : Grid). PartsStand (steps_of w ∷ []) g) (one_union depth (square depth w)) stands in
    section_stands (record { township = t.number; north = t.north; range = t.range; east = t.east; section = Some x }) t x s
    (grid_of depth (holds (square depth w)))
    (record { number_is = refl; north_is = refl; range_is = refl; east_is = refl }) refl
    (record { township_is = refl; number_is = refl }) same

-- a node's text describes a land of which the node alone is the cover
pub reads_back : ReadsBack depth
reads_back n h = (land_of depth n, (node_syntax n, node_says n h, node_stands n h), cover_of-land_of depth n h)
