-- The rows of a sheet come in the order of their nodes' cells.
use Rattle.std.{proofs.Common.{◌≡◌, ℕ, zero, suc, ◌+◌, true, inl, inr, List, [], ◌∷◌}, specs.List.{flat_map}}
use Rattle.std.{proofs.Common.{refl, sym, subst, ◌∙◌}, specs.{List.{list_all}, Prelude.{reverse}}}
use Rattle.std.proofs.lemmas.Bool.{and_parts, both_ways}
use Rattle.title_land.specs.{declared.{survey.Township.{Township}, node.Node.{Node}, tract.Land.{Land}}, Lands.{cover_of}}
use Rattle.title_land.specs.{CellLists.{node_cells, children_of}, Survey.{same_section}}
use Rattle.title_land.specs.{CoverSets.{path_before, comes_before, are_in_order}, Laws.Members.{all_at}}
use Rattle.title_land.specs.Laws.{Members.{In, in_flat_mapped}, CoverSet.{cover_is_cover}, CellsInOrder.{met_nodes}, NodeLands.{path_after}}
use Rattle.title_land.specs.declared.node.Node.TheVariants as node
use Rattle.title_instrument.specs.declared.parts.Estate.{Estate, TheVariants.{S, O, M}}
use Rattle.title_store.specs.{declared.sheet_row.SheetRow.{SheetRow}, Plants.{Plant, IsEachOnce}, Laws.SheetSteps.{sheet_one, sheet_none}}
use Rattle.title_store.specs.{Sheets.{one_holding, holding_rows, sheet_below, estates, sheet_of}, Laws.SheetShows.{in_from, cover_apart}}
use Rattle.title_store.specs.{SheetOrder.{InTurn, IsFirst, SheetIsInOrder}, Laws.SheetNodes.{option_cases, sheet_split, row_of, row_node}}
use Rattle.title_store.proofs.{Turns.{Pairs, pairs_flat, pairs_more, pairs_all}, NodesInTurn.{Before, children_in_turn}}

-- the rows of a node whose cells come first come first
rows_first : (levels d : ℕ) (ts : List Township) (p : Plant) (e : Estate) (a b : Node) → Before d ts a b → (x y : SheetRow)
    → In x (sheet_below levels d ts p e a) → In y (sheet_below levels d ts p e b) → IsFirst d ts x y
rows_first levels d ts p e a b before x y i j same =
    inr (λ c f h k on under. before c f ((row_of levels d ts p e a x i).within c h) ((row_of levels d ts p e b y j).within f k) on under)

pub below_in_turn : (levels d : ℕ) (ts : List Township) (p : Plant) (e : Estate) (n : Node) → IsEachOnce ts
    → Pairs (IsFirst d ts) (sheet_below levels d ts p e n)
below_in_turn zero d ts p e n once = elim (option_cases (one_holding e p (node_cells d ts n))) [
  | inl none ↦ subst (λ (rows : List SheetRow). Pairs (IsFirst d ts) rows) (sym (sheet_none zero d ts p e n refl none)) tt
  | inr one ↦ subst (λ (rows : List SheetRow). Pairs (IsFirst d ts) rows) (sym (sheet_one zero d ts p e n one.0 one.1))
      (pairs_all (IsFirst d ts) (holding_rows n e one.0) (λ x y i j same. inl (row_node n e one.0 x i ∙ sym (row_node n e one.0 y j))))
]
below_in_turn (suc levels) d ts p e n once = elim (option_cases (one_holding e p (node_cells d ts n))) [
  | inl none ↦ subst (λ (rows : List SheetRow). Pairs (IsFirst d ts) rows) (sym (sheet_split levels d ts p e n none))
      (pairs_flat (Before d ts) (IsFirst d ts) (sheet_below levels d ts p e) (children_of d ts n) (children_in_turn d ts n once)
      (λ m i. below_in_turn levels d ts p e m once) (λ a b i j q x y k l. rows_first levels d ts p e a b q x y k l))
  | inr one ↦ subst (λ (rows : List SheetRow). Pairs (IsFirst d ts) rows) (sym (sheet_one (suc levels) d ts p e n one.0 one.1))
      (pairs_all (IsFirst d ts) (holding_rows n e one.0) (λ x y i j same. inl (row_node n e one.0 x i ∙ sym (row_node n e one.0 y j))))
]

-- ---- covers

node_not_first : (n : Node) → comes_before n n ≡ true → ⊥
node_not_first node.Everything h = absurd cc
node_not_first (node.Township t) h = absurd cc
node_not_first (node.Part s w) h =
    both_ways (path_before (reverse w) (reverse w)) (path_after (reverse w))
    (and_parts (same_section s s) (path_before (reverse w) (reverse w)) h).1

order_pairs : (nodes : List Node) → are_in_order nodes ≡ true → Pairs (λ m n. comes_before m n ≡ true) nodes
order_pairs [] o = tt
order_pairs (z ∷ nodes) o =
    let k = and_parts (list_all (comes_before z) nodes) (are_in_order nodes) o in
    (λ n i. all_at (comes_before z) nodes n k.0 i, order_pairs nodes k.1)

cover_in_turn : (d : ℕ) (ts : List Township) (land : Land) → Pairs (Before d ts) (cover_of d land)
cover_in_turn d ts land =
    pairs_more (λ m n. comes_before m n ≡ true) (Before d ts) (cover_of d land)
    (order_pairs (cover_of d land) (cover_is_cover d land).order)
    (λ m n i j first c e h k on under. met_nodes d ts land m n c e i j
    (λ z. node_not_first n (subst (λ (x : Node). comes_before x n ≡ true) (cover_apart d land m n e i j z k) first)) first h k on)

turns_from : {A : Type 0} (r : A → A → Type 0) (xs : List A) → Pairs r xs → InTurn r xs
turns_from r [] p = tt
turns_from r (x ∷ xs) p = (λ y l. p.0 y (in_from xs y l), turns_from r xs p.1)

-- two different estates
abbrev Apart : Estate → Estate → Type 0
Apart e f = e ≡ f → ⊥

estates_apart : Pairs Apart estates
estates_apart = (
  λ y i same. elim i [
    | inl e ↦ let k : S ≡ O = same ∙ e in absurd cc
    | inr j ↦ elim j [ inl e ↦ let k : S ≡ M = same ∙ e in absurd cc | inr z ↦ absurd z ]
  ],
  (λ y i same. elim i [ inl e ↦ let k : O ≡ M = same ∙ e in absurd cc | inr z ↦ absurd z ], (λ y i. absurd i, tt)),
)

estate_of : (d : ℕ) (ts : List Township) (p : Plant) (land : Land) (e : Estate) (x : SheetRow)
    → In x (flat_map (sheet_below (d + 2) d ts p e) (cover_of d land)) → x.estate ≡ e
estate_of d ts p land e x i =
    let n = in_flat_mapped (sheet_below (d + 2) d ts p e) (cover_of d land) x i in (row_of (d + 2) d ts p e n.0 x n.2).estate_is

pub sheet_is_in_order : (d : ℕ) → SheetIsInOrder d
unfolding sheet_of
sheet_is_in_order d ts p land once =
    let part = λ (e : Estate). flat_map (sheet_below (d + 2) d ts p e) (cover_of d land) in
    turns_from (IsFirst d ts) (flat_map part estates)
    (pairs_flat Apart (IsFirst d ts) part estates estates_apart
    (λ e i. pairs_flat (Before d ts) (IsFirst d ts) (sheet_below (d + 2) d ts p e) (cover_of d land) (cover_in_turn d ts land)
    (λ n j. below_in_turn (d + 2) d ts p e n once) (λ a b j k q x y l m. rows_first (d + 2) d ts p e a b q x y l m))
    (λ e f i j apart x y k l same. absurd (apart (sym (estate_of d ts p land e x k) ∙ same ∙ estate_of d ts p land f y l))))
