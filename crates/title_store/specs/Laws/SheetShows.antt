-- What a sheet shows of the tract's cells.
use Rattle.std.proofs.Common.{◌≡◌, ℕ, ◌+◌, true, ◌||◌, inl, inr, List, [], ◌∷◌}
use Rattle.std.proofs.{Common.{Some, refl, sym, ap, subst, ◌∙◌, arith}, lemmas.Bool.{and_parts, or_cases, both_ways}}
use Rattle.std.specs.List.{list_any, flat_map}
use Rattle.title_share.specs.Division.{Division, rows_of}
use Rattle.title_land.specs.{declared.{survey.{Township.{Township}, Cell.{Cell}}, node.Node.{Node}, tract.Land.{Land}}}
use Rattle.title_land.specs.{Survey.{is_on_grid, same_township}, Nodes.{same_node, is_above, node_has, parent_of, IsNode}}
use Rattle.title_land.specs.{Lands.{has, cover_of, is_plant_cell}, CellLists.{node_cells}, Laws.SameNode.{same_node-self, same_node-to}}
use Rattle.title_land.specs.Laws.{Members.{In, any_from, in_map, in_flat_map, in_flat_mapped}, CoverSet.{cover_is_cover, cover_nodes_apart}}
use Rattle.title_land.specs.Laws.{NodeSharing.{related_from_cell}, LandSharing.{cover_has, cover_has_each, cover_in_tree}}
use Rattle.title_land.specs.declared.node.Node.TheVariants as node
use Rattle.title_instrument.specs.{declared.parts.Estate.{Estate, TheVariants.{S, O, M}}, Owners.{holding_of}}
use Rattle.title_store.specs.{declared.sheet_row.SheetRow.{SheetRow}, Plants.{Plant}}
use Rattle.title_store.specs.{Sheets.{sheet_below, estates, sheet_of}, Laws.SheetNodes.{shown, RowOf, row_of, rows_apart}}
use Rattle.title_store.specs.SheetShows.{Lists, SheetShowsEachCell, SheetStaysInside, SheetNodesLieApart, SheetNodesAreLargest}
use Rattle.title_store.specs.Laws.SheetHoldings.{one_found, one_from, one_some, in_node, of_node, Reach}

lists_from : {A : Type 0} (xs : List A) (x : A) → In x xs → Lists xs x
lists_from [] x i = absurd i
lists_from (y ∷ xs) x i = elim i [ inl e ↦ inl e | inr k ↦ inr (lists_from xs x k) ]

pub in_from : {A : Type 0} (xs : List A) (x : A) → Lists xs x → In x xs
in_from [] x i = absurd i
in_from (y ∷ xs) x i = elim i [ inl e ↦ inl e | inr k ↦ inr (in_from xs x k) ]

-- where a row of a tract's sheet comes from
record Source (d : ℕ) (ts : List Township) (p : Plant) (land : Land) (x : SheetRow) : Type 0 where
  pub node : Node
  pub of_cover : In node (cover_of d land)
  pub listed : In x (sheet_below (d + 2) d ts p x.estate node)
  pub row : RowOf d ts p x.estate node x

source_of : (d : ℕ) (ts : List Township) (p : Plant) (land : Land) (x : SheetRow) → Lists (sheet_of d ts p land) x → Source d ts p land x
unfolding sheet_of
source_of d ts p land x l =
    let part = λ (e : Estate). flat_map (sheet_below (d + 2) d ts p e) (cover_of d land) in
    let e = in_flat_mapped part estates x (in_from (flat_map part estates) x l) in
    let n = in_flat_mapped (sheet_below (d + 2) d ts p e.0) (cover_of d land) x e.2 in
    let same = (row_of (d + 2) d ts p e.0 n.0 x n.2).estate_is in
    let listed = subst (λ (f : Estate). In x (sheet_below (d + 2) d ts p f n.0)) (sym same) n.2 in
    record { node = n.0; of_cover = n.1; listed = listed; row = row_of (d + 2) d ts p x.estate n.0 x listed }

in_estates : (e : Estate) → In e estates
in_estates S = inl refl
in_estates O = inr (inl refl)
in_estates M = inr (inr (inl refl))

in_sheet : (d : ℕ) (ts : List Township) (p : Plant) (land : Land) (e : Estate) (n : Node) (x : SheetRow) → In n (cover_of d land)
    → In x (sheet_below (d + 2) d ts p e n) → Lists (sheet_of d ts p land) x
unfolding sheet_of
in_sheet d ts p land e n x i j =
    let part = λ (f : Estate). flat_map (sheet_below (d + 2) d ts p f) (cover_of d land) in
    lists_from (flat_map part estates) x
    (in_flat_map part estates e x (in_estates e) (in_flat_map (sheet_below (d + 2) d ts p e) (cover_of d land) n x i j))

reach_all : (d : ℕ) (n : Node) → IsNode d n → Reach (d + 2) d n
reach_all d node.Everything h = omega arith
reach_all d (node.Township t) h = omega arith
reach_all d (node.Part s w) h = (omega arith, h)

pub sheet_shows_each_cell : (d : ℕ) → SheetShowsEachCell d
sheet_shows_each_cell d ts p land e c h =
    let parts = and_parts (has land c) (is_plant_cell d ts c) h in
    let on = (and_parts (is_on_grid d c) (list_any (same_township c.section.township) ts) parts.1).0 in
    let n = cover_has_each d land c on parts.0 in
    let s = shown (d + 2) d ts p e n.0 c (reach_all d n.0 (cover_in_tree d land n.0 n.1)) n.2 parts.1 in
    let held = holding_of e (p c) in (
      s.at,
      s.has_is,
      λ party units. (
        λ l. let r = (source_of d ts p land (record { node = s.at; estate = e; party = party; units = units }) l).row in
            let same = one_found e p (node_cells d ts s.at) r.held c r.one (in_node d ts s.at c s.has_is parts.1) in
            lists_from (rows_of held) (party, units) (subst (λ (x : Division). In (party, units) (rows_of x)) (sym same) r.listed),
        λ l. in_sheet d ts p land e n.0 (record { node = s.at; estate = e; party = party; units = units }) n.1
            (s.rows_in (record { node = s.at; estate = e; party = party; units = units })
            (in_map (λ r. record { node = s.at; estate = e; party = r.0; units = r.1 }) (party, units) (rows_of held)
            (in_from (rows_of held) (party, units) l))),
      ),
    )

pub sheet_stays_inside : (d : ℕ) → SheetStaysInside d
sheet_stays_inside d ts p land x c l h =
    let s = source_of d ts p land x l in
    cover_has d land s.node c s.of_cover (s.row.within c h)

-- two nodes of a cover with a cell in common are one
pub cover_apart : (d : ℕ) (land : Land) (m n : Node) (c : Cell) → In m (cover_of d land) → In n (cover_of d land)
    → node_has d m c ≡ true → node_has d n c ≡ true → m ≡ n
cover_apart d land m n c i j h k =
    let first = any_from (same_node m) (cover_of d land) m i (same_node-self m) in
    let second = any_from (same_node n) (cover_of d land) n j (same_node-self n) in
    elim (or_cases (same_node m n) (is_above m n || is_above n m) (related_from_cell d m n c h k)) [
      | inl same ↦ same_node-to m n same
      | inr above ↦ elim (or_cases (is_above m n) (is_above n m) above) [
        | inl up ↦ absurd (both_ways (is_above m n) (cover_nodes_apart d land m n first second) up)
        | inr down ↦ absurd (both_ways (is_above n m) (cover_nodes_apart d land n m second first) down)
      ]
    ]

pub sheet_nodes_lie_apart : (d : ℕ) → SheetNodesLieApart d
sheet_nodes_lie_apart d ts p land x y c l m same h k =
    let s = source_of d ts p land x l in
    let t = source_of d ts p land y m in
    let one = cover_apart d land s.node t.node c s.of_cover t.of_cover (s.row.within c h) (t.row.within c k) in
    let there = subst (λ (f : Estate). In y (sheet_below (d + 2) d ts p f t.node)) (sym same) t.listed in
    let here = subst (λ (n : Node). In y (sheet_below (d + 2) d ts p x.estate n)) (sym one) there in
    rows_apart (d + 2) d ts p x.estate s.node x y c s.listed here h k

pub sheet_nodes_are_largest : (d : ℕ) → SheetNodesAreLargest d
sheet_nodes_are_largest d ts p land x up held l parent lies all =
    let s = source_of d ts p land x l in
    elim s.row.largest [
      | inl same ↦
          let listed = any_from (same_node s.node) (cover_of d land) s.node s.of_cover (same_node-self s.node) in
          let cover = ((cover_is_cover d land).members s.node (cover_in_tree d land s.node s.of_cover)).0 listed in
          cover.parent_does_not up (sym (ap parent_of same) ∙ parent) lies
      | inr split ↦
          let equal : Some split.0 ≡ Some up = sym split.1.parent_is ∙ parent in
          let one : split.0 ≡ up = cc in
          let some = one_some x.estate p (node_cells d ts x.node) s.row.held s.row.one in
          let cell = of_node d ts x.node some.0 some.1 in
          let inner = in_node d ts split.0 some.0 (split.1.within some.0 cell.0) cell.1 in
          one_from x.estate p (node_cells d ts split.0) held some.0 inner
          (λ c i. let k = of_node d ts split.0 c i in all c (subst (λ (n : Node). node_has d n c ≡ true) one k.0) k.1) split.1.none
    ]
