-- A post on the finer grid: the first of its cells that refuses lies in the cell that refused.
use Rattle.std.proofs.Common.{◌≡◌, ℕ, suc, ◌+◌, ◌*◌, Bool, false, cond, ◌&&◌, inl, inr, List, [], ◌∷◌, Option, Some, None, is_some}
use Rattle.std.{proofs.Common.{refl, sym, ap, ◌∙◌}, specs.{Prelude.{find, unwrap_or}, Option.{option_map}, List.{flat_map, list_any}}}
use Rattle.std.proofs.{lemmas.Bool.{and_right, cases_Bool}, Math.Path.{fun_ext}}
use Rattle.title_land.specs.{declared.{survey.{Township.{Township}, Cell.{Cell}}, node.Node.{Node}, tract.Land.{Land}}, Nodes.{node_has}}
use Rattle.title_land.specs.{Survey.{same_township, is_on_grid}, Lands.{has, cover_of}, CellLists.{cells_of}, Laws.Members.{In}}
use Rattle.title_land.specs.{Doubled.{halved, cell_in, four_cells, doubled}, Laws.LandSharing.{cover_in_tree}}
use Rattle.title_land.specs.Laws.{CoversDoubled.{cover_doubles}, ListsDoubled.{cells_double}}
use Rattle.title_land.specs.Laws.CellsDoubled.{four_halved, grid_double, doubled_has_the_cells, nodes_have_the_cells}
use Rattle.title_land.specs.declared.node.Node.TheVariants as node
use Rattle.title_instrument.specs.declared.{instrument.Instrument.{Instrument}, owners.Effect.{Effect, TheVariants.{Done, Refused}}}
use Rattle.title_instrument.specs.Effect.{cell_effect}
use Rattle.title_store.specs.Plants.{Plant, Failing, is_cell_of, failing_or, first_failing, node_of, refusal_of, refused_in, done_or}
use Rattle.title_store.specs.{Plants.{plant_effect}, DepthLaws.{finer, RefusedDoubles, EffectDoubles}}

-- the first of a cell's four
abbrev first_of_four : Cell → Cell
first_of_four c = cell_in c.section (2 * c.row) (2 * c.column + 1)

first_halved : (c : Cell) → halved (first_of_four c) ≡ c
first_halved c = four_halved (first_of_four c) c (inl refl)

abbrev failing_first : Failing → Failing
failing_first f = record { rule = f.rule; estate = f.estate; cell = first_of_four f.cell }

-- of four cells that answer alike, the first refuses or none
four_failing : (e : Effect) (c x y z : Cell) (rest : Option Failing)
    → failing_or (first_of_four c) e (failing_or x e (failing_or y e (failing_or z e (option_map failing_first rest))))
    ≡ option_map failing_first (failing_or c e rest)
four_failing (Done owners) c x y z rest = refl
four_failing (Refused rule estate) c x y z rest = refl

failing_double : (i : Instrument ℕ) (p : Plant) (cs : List Cell)
    → first_failing i (finer p) (flat_map four_cells cs) ≡ option_map failing_first (first_failing i p cs)
failing_double i p [] = refl
failing_double i p (c ∷ cs) =
    let x = cell_in c.section (2 * c.row) (2 * c.column) in
    let y = cell_in c.section (2 * c.row + 1) (2 * c.column) in
    let z = cell_in c.section (2 * c.row + 1) (2 * c.column + 1) in
    let a = first_halved c in
    let b = four_halved x c (inr (inl refl)) in
    let d = four_halved y c (inr (inr (inl refl))) in
    let e = four_halved z c (inr (inr (inr (inl refl)))) in
    (λ k. failing_or (first_of_four c) (cell_effect i (p (a k))) (failing_or x (cell_effect i (p (b k)))
    (failing_or y (cell_effect i (p (d k))) (failing_or z (cell_effect i (p (e k))) (failing_double i p cs k)))))
    ∙ four_failing (cell_effect i (p c)) c x y z (first_failing i p cs)

-- the first that passes a test passes it also by another that agrees with it on the list
find_same : (f g : Node → Bool) (ns : List Node) → ((n : Node) → In n ns → f n ≡ g n) → find f ns ≡ find g ns
find_same f g [] same = refl
find_same f g (n ∷ ns) same = λ k. cond (same n (inl refl) k) (Some n) (find_same f g ns (λ m i. same m (inr i)) k)

-- the node of the cover in which the first of a cell's four lies is that of the cell
node_double : (d : ℕ) (x : Land) (c : Cell) → node_of (suc d) (doubled d x) (first_of_four c) ≡ node_of d x c
node_double d x c =
    ap (λ (ns : List Node). unwrap_or (find (λ n. node_has (suc d) n (first_of_four c)) ns) node.Everything) (cover_doubles d x)
    ∙ ap (λ (o : Option Node). unwrap_or o node.Everything)
    (find_same (λ n. node_has (suc d) n (first_of_four c)) (λ n. node_has d n c) (cover_of d x)
    (λ n i. nodes_have_the_cells d n (first_of_four c) (cover_in_tree d x n i) ∙ ap (node_has d n) (first_halved c)))

refusal_double : (d : ℕ) (x : Land) (o : Option Failing) → refusal_of (suc d) (doubled d x) (option_map failing_first o) ≡ refusal_of d x o
refusal_double d x None = refl
refusal_double d x (Some f) = λ k. Some (record { rule = f.rule; estate = f.estate; node = node_double d x f.cell k })

pub refused_doubles : RefusedDoubles
unfolding refused_in
refused_doubles d ts i p x =
    ap (λ (cs : List Cell). refusal_of (suc d) (doubled d x) (first_failing i (finer p) cs)) (cells_double d ts x)
    ∙ ap (refusal_of (suc d) (doubled d x)) (failing_double i p (cells_of d ts x))
    ∙ refusal_double d x (first_failing i p (cells_of d ts x))

-- a cell is one of the doubled land's exactly where the cell that it lies in is one of the land's
cell_double : (d : ℕ) (ts : List Township) (x : Land) (c : Cell) → is_cell_of (suc d) ts (doubled d x) c ≡ is_cell_of d ts x (halved c)
cell_double d ts x c = elim (cases_Bool (is_on_grid (suc d) c)) [
  | inl on ↦ λ k. doubled_has_the_cells d x c on k && (grid_double d c k && declared)
  | inr off ↦
      (λ k. has (doubled d x) c && (off k && declared)) ∙ and_right (has (doubled d x) c) false refl
      ∙ sym (and_right (has x (halved c)) false refl) ∙ (λ k. has x (halved c) && (sym_off off k && declared))
]
  where
    declared : Bool
    declared = list_any (same_township c.section.township) ts

    sym_off : is_on_grid (suc d) c ≡ false → false ≡ is_on_grid d (halved c)
    sym_off off = sym off ∙ grid_double d c

pub effect_doubles : EffectDoubles
unfolding plant_effect
effect_doubles d ts i p x = fun_ext (λ c k.
    cond (is_some (refused_doubles d ts i p x k)) (p (halved c))
    (cond (cell_double d ts x c k) (done_or (p (halved c)) (cell_effect i (p (halved c)))) (p (halved c))))
