-- What is met before what in lists of cells.
use Rattle.std.proofs.Common.{◌≡◌, Bool, true, false, not, ◌||◌, inl, inr, List, [], ◌∷◌, ◌++◌, refl, sym, ap, subst, ◌∙◌}
use Rattle.std.proofs.lemmas.Bool.{and_parts, and_from, or_cases, or_left, or_right, cases_Bool, both_ways}
use Rattle.std.specs.List.{list_any, list_all, flat_map, filter}
use Rattle.title_land.specs.{declared.{survey.Cell.{Cell}, node.Node.{Node}}, Nodes.{same_node}, CellLists.{same_cell}, Laws.Members.{In}}
use Rattle.title_land.specs.{CoverSets.{comes_before, are_in_order}, CellOrder.{is_met_before}, Laws.Members.{all_at}}
use Rattle.title_land.specs.Laws.{NodeSharing.{same_from_equal}, CellMembers.{same_cells_are_equal, listed, listed_from}}
use Rattle.title_land.specs.Laws.SameNode.{same_node-to}

pub not_from : (b : Bool) → (b ≡ true → ⊥) → not b ≡ true
not_from true h = absurd (h refl)
not_from false h = refl

pub false_from : (b : Bool) → not b ≡ true → b ≡ false
false_from true h = sym h
false_from false h = refl

-- the first cell is met before the second
abbrev pub Met : List Cell → Cell → Cell → Type 0
Met cells c e = is_met_before same_cell cells c e ≡ true

pub met_left : (xs ys : List Cell) (c e : Cell) → Met xs c e → Met (xs ++ ys) c e
met_left [] ys c e h = absurd cc
met_left (z ∷ xs) ys c e h =
    let k = and_parts (not (same_cell e z)) (same_cell c z || is_met_before same_cell xs c e) h in
    and_from (not (same_cell e z)) (same_cell c z || is_met_before same_cell (xs ++ ys) c e) k.0
    (elim (or_cases (same_cell c z) (is_met_before same_cell xs c e) k.1) [
      | inl m ↦ or_left (same_cell c z) (is_met_before same_cell (xs ++ ys) c e) m
      | inr m ↦ or_right (same_cell c z) (is_met_before same_cell (xs ++ ys) c e) (met_left xs ys c e m)
    ])

not_in_head : (z : Cell) (xs : List Cell) (e : Cell) → (In e (z ∷ xs) → ⊥) → not (same_cell e z) ≡ true
not_in_head z xs e f = not_from (same_cell e z) (λ k. f (inl ((same_cells_are_equal e z).0 k)))

pub met_right : (xs ys : List Cell) (c e : Cell) → (In e xs → ⊥) → Met ys c e → Met (xs ++ ys) c e
met_right [] ys c e f h = h
met_right (z ∷ xs) ys c e f h =
    and_from (not (same_cell e z)) (same_cell c z || is_met_before same_cell (xs ++ ys) c e) (not_in_head z xs e f)
    (or_right (same_cell c z) (is_met_before same_cell (xs ++ ys) c e) (met_right xs ys c e (λ i. f (inr i)) h))

pub met_first : (xs ys : List Cell) (c e : Cell) → In c xs → (In e xs → ⊥) → Met (xs ++ ys) c e
met_first [] ys c e i f = absurd i
met_first (z ∷ xs) ys c e i f =
    and_from (not (same_cell e z)) (same_cell c z || is_met_before same_cell (xs ++ ys) c e) (not_in_head z xs e f)
    (elim i [
      | inl k ↦ or_left (same_cell c z) (is_met_before same_cell (xs ++ ys) c e) ((same_cells_are_equal c z).1 k)
      | inr k ↦ or_right (same_cell c z) (is_met_before same_cell (xs ++ ys) c e) (met_first xs ys c e k (λ j. f (inr j)))
    ])

-- of lists one after another, what the earlier of two has is met before what the later alone has
pub flat_before : {X : Type 0} (same : X → X → Bool) (cells : X → List Cell) (xs : List X) (a b : X) (c e : Cell)
    → is_met_before same xs a b ≡ true → ((z : X) → same a z ≡ true → In c (cells z))
    → ((z : X) → same b z ≡ false → In e (cells z) → ⊥) → Met (flat_map cells xs) c e
flat_before same cells [] a b c e h f g = absurd cc
flat_before same cells (z ∷ xs) a b c e h f g =
    let k = and_parts (not (same b z)) (same a z || is_met_before same xs a b) h in
    let apart = g z (false_from (same b z) k.0) in
    elim (or_cases (same a z) (is_met_before same xs a b) k.1) [
      | inl m ↦ met_first (cells z) (flat_map cells xs) c e (f z m) apart
      | inr m ↦ met_right (cells z) (flat_map cells xs) c e apart (flat_before same cells xs a b c e m f g)
    ]

-- what is met before a cell in the only one of the lists that has it is met before it in all
pub flat_at : {X : Type 0} (cells : X → List Cell) (xs : List X) (a : X) (c e : Cell) → In a xs
    → ((z : X) → In e (cells z) → z ≡ a) → Met (cells a) c e → Met (flat_map cells xs) c e
flat_at cells [] a c e i f h = absurd i
flat_at cells (z ∷ xs) a c e i f h = elim i [
  | inl k ↦ met_left (cells z) (flat_map cells xs) c e (subst (λ (x : _). Met (cells x) c e) k h)
  | inr k ↦ elim (cases_Bool (list_any (same_cell e) (cells z))) [
    | inl m ↦ met_left (cells z) (flat_map cells xs) c e
        (subst (λ (x : _). Met (cells x) c e) (sym (f z (listed (cells z) e m))) h)
    | inr m ↦ met_right (cells z) (flat_map cells xs) c e
        (λ j. both_ways (list_any (same_cell e) (cells z)) m (listed_from (cells z) e j)) (flat_at cells xs a c e k f h)
  ]
]

pub met_filter : (p : Cell → Bool) (xs : List Cell) (c e : Cell) → p c ≡ true → Met xs c e → Met (filter p xs) c e
met_filter p [] c e t h = absurd cc
met_filter p (z ∷ xs) c e t h =
    let k = and_parts (not (same_cell e z)) (same_cell c z || is_met_before same_cell xs c e) h in
    let later = λ (m : Met xs c e). met_filter p xs c e t m in
    elim (cases_Bool (p z)) [
      | inl y ↦ rw y (and_from (not (same_cell e z)) (same_cell c z || is_met_before same_cell (filter p xs) c e) k.0
          (elim (or_cases (same_cell c z) (is_met_before same_cell xs c e) k.1) [
            | inl m ↦ or_left (same_cell c z) (is_met_before same_cell (filter p xs) c e) m
            | inr m ↦ or_right (same_cell c z) (is_met_before same_cell (filter p xs) c e) (later m)
          ]))
      | inr y ↦ rw y (elim (or_cases (same_cell c z) (is_met_before same_cell xs c e) k.1) [
        | inl m ↦ absurd (both_ways (p z) y (sym (ap p ((same_cells_are_equal c z).0 m)) ∙ t))
        | inr m ↦ later m
      ])
    ]

-- ---- nodes

pub met_member : (nodes : List Node) (m n : Node) → is_met_before same_node nodes m n ≡ true → In m nodes
met_member [] m n h = absurd cc
met_member (z ∷ nodes) m n h =
    let k = and_parts (not (same_node n z)) (same_node m z || is_met_before same_node nodes m n) h in
    elim (or_cases (same_node m z) (is_met_before same_node nodes m n) k.1) [
      | inl e ↦ inl (same_node-to m z e)
      | inr i ↦ inr (met_member nodes m n i)
    ]

-- nothing is met before itself
pub met_apart : (nodes : List Node) (n : Node) → is_met_before same_node nodes n n ≡ true → ⊥
met_apart [] n h = cc
met_apart (z ∷ nodes) n h =
    let k = and_parts (not (same_node n z)) (same_node n z || is_met_before same_node nodes n n) h in
    elim (or_cases (same_node n z) (is_met_before same_node nodes n n) k.1) [
      | inl e ↦ both_ways (same_node n z) (false_from (same_node n z) k.0) e
      | inr i ↦ met_apart nodes n i
    ]

-- in a list in order, what is met before comes before
pub met_in_order : (nodes : List Node) (m n : Node) → are_in_order nodes ≡ true → is_met_before same_node nodes m n ≡ true
    → In n nodes → comes_before m n ≡ true
met_in_order [] m n o h i = absurd i
met_in_order (z ∷ nodes) m n o h i =
    let k = and_parts (not (same_node n z)) (same_node m z || is_met_before same_node nodes m n) h in
    let order = and_parts (list_all (comes_before z) nodes) (are_in_order nodes) o in
    elim i [
      | inl e ↦ absurd (both_ways (same_node n z) (false_from (same_node n z) k.0) (same_from_equal n z e))
      | inr j ↦ elim (or_cases (same_node m z) (is_met_before same_node nodes m n) k.1) [
        | inl e ↦ ap (λ (x : Node). comes_before x n) (same_node-to m z e) ∙ all_at (comes_before z) nodes n order.0 j
        | inr r ↦ met_in_order nodes m n order.1 r j
      ]
    ]
