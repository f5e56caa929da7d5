-- A refusal is that of the first failing cell, at the node of the cover in which the cell lies.
use Rattle.std.proofs.Common.{◌≡◌, ℕ, true, not, ◌||◌, inl, inr, List, [], ◌∷◌, Option, Some, None, is_some, unwrap_or, find, refl, sym, ap}
use Rattle.std.proofs.{Common.{subst, ◌∙◌}, lemmas.Bool.{and_parts, or_cases, cases_Bool, both_ways, or_left, or_right}}
use Rattle.std.specs.List.{AllByRecursion, list_any}
use Rattle.title_land.specs.{declared.{survey.Cell.{Cell}, node.Node.{Node}, tract.Land.{Land}}, Survey.{is_on_grid, same_township}}
use Rattle.title_land.specs.{Nodes.{same_node, node_has}, Lands.{has, cover_of, is_plant_cell}, CellLists.{same_cell, cells_of}}
use Rattle.title_land.specs.{CellOrder.{is_met_before}, Laws.{Members.{In}, MetBefore.{false_from}, SameNode.{same_node-self}}}
use Rattle.title_land.specs.Laws.{CellMembers.{same_cells_are_equal}, CoverSet.{cover_finds}}
use Rattle.title_land.specs.declared.node.Node.TheVariants as node
use Rattle.title_instrument.specs.declared.{instrument.Instrument.{Instrument}, owners.{Owners.{Owners}, Effect.{Effect}}}
use Rattle.title_instrument.specs.{declared.owners.Effect.TheVariants.{Done, Refused}, Effect.{cell_effect}}
use Rattle.title_store.specs.Plants.{Plant, Failing, Refusal, is_cell_of, failing_or, first_failing, node_of, refusal_of, refused_in}
use Rattle.title_store.specs.{RefusalLaws.{IsRefusedAt, RefusedAtTheFirst}, Laws.PlantCells.{cells_each}}

-- the cell of a list that fails first
record FailsFirst (i : Instrument ℕ) (p : Plant) (cells : List Cell) (f : Failing) : Type 0 where
  pub listed : In f.cell cells
  pub refuses : cell_effect i (p f.cell) ≡ Refused f.rule f.estate
  pub earlier_done : (c : Cell) → is_met_before same_cell cells c f.cell ≡ true → (owners : Owners) × (cell_effect i (p c) ≡ Done owners)

fails_here : (i : Instrument ℕ) (p : Plant) (c : Cell) (cells : List Cell) (f : Failing) → c ≡ f.cell
    → cell_effect i (p c) ≡ Refused f.rule f.estate → FailsFirst i p (c ∷ cells) f
fails_here i p c cells f same e = record {
  listed = inl (sym same);
  refuses = ap (λ (x : Cell). cell_effect i (p x)) (sym same) ∙ e;
  earlier_done = λ b h.
      let k = and_parts (not (same_cell f.cell c)) (same_cell b c || is_met_before same_cell cells b f.cell) h in
      absurd (both_ways (same_cell f.cell c) (false_from (same_cell f.cell c) k.0) ((same_cells_are_equal f.cell c).1 (sym same)));
}

fails_later : (i : Instrument ℕ) (p : Plant) (c : Cell) (cells : List Cell) (f : Failing) (new : Owners)
    → cell_effect i (p c) ≡ Done new → FailsFirst i p cells f → FailsFirst i p (c ∷ cells) f
fails_later i p c cells f new e later = record {
  listed = inr later.listed;
  refuses = later.refuses;
  earlier_done = λ b h.
      let k = and_parts (not (same_cell f.cell c)) (same_cell b c || is_met_before same_cell cells b f.cell) h in
      elim (or_cases (same_cell b c) (is_met_before same_cell cells b f.cell) k.1) [
        | inl m ↦ (new, ap (λ (x : Cell). cell_effect i (p x)) ((same_cells_are_equal b c).0 m) ∙ e)
        | inr m ↦ later.earlier_done b m
      ];
}

fails_first : (i : Instrument ℕ) (p : Plant) (cells : List Cell) (f : Failing) → first_failing i p cells ≡ Some f → FailsFirst i p cells f
fails_first i p [] f h = absurd cc
fails_first i p (c ∷ cells) f h = go (λ k. fails_first i p cells f k) (cell_effect i (p c)) refl h
  where
    go : (first_failing i p cells ≡ Some f → FailsFirst i p cells f) → (x : Effect) → cell_effect i (p c) ≡ x
        → failing_or c x (first_failing i p cells) ≡ Some f → FailsFirst i p (c ∷ cells) f
    go later (Done new) e k = fails_later i p c cells f new e (later k)
    go later (Refused rule estate) e k =
        let g : record { rule = rule; estate = estate; cell = c } ≡ f = cc in
        fails_here i p c cells f (ap (λ (x : Failing). x.cell) g)
        (e ∙ ap (λ (x : Failing). Refused x.rule x.estate) g)

each_at : (P : Cell → Type 0) (cells : List Cell) (c : Cell) → AllByRecursion P cells → In c cells → P c
each_at P [] c h i = absurd i
each_at P (z ∷ cells) c h i = elim i [
  | inl e ↦ subst P (sym e) h.0
  | inr k ↦ each_at P cells c h.1 k
]

found_is_listed : (d : ℕ) (c : Cell) (nodes : List Node) (n : Node) → find (λ m. node_has d m c) nodes ≡ Some n
    → list_any (same_node n) nodes ≡ true
found_is_listed d c [] n h = absurd cc
found_is_listed d c (z ∷ nodes) n h = elim (cases_Bool (node_has d z c)) [
  | inl e ↦
      let k : Some z ≡ Some n = rw e at h in
      let same : z ≡ n = cc in
      or_left (same_node n z) (list_any (same_node n) nodes) (subst (λ (x : Node). same_node n x ≡ true) (sym same) (same_node-self n))
  | inr e ↦ or_right (same_node n z) (list_any (same_node n) nodes) (found_is_listed d c nodes n (rw e at h))
]

-- the node that a cell of the land is given
record IsGiven (d : ℕ) (land : Land) (c : Cell) (n : Node) : Type 0 where
  pub has_is : node_has d n c ≡ true
  pub of_cover : list_any (same_node n) (cover_of d land) ≡ true

node_given : (d : ℕ) (land : Land) (c : Cell) → is_on_grid d c ≡ true → has land c ≡ true → IsGiven d land c (node_of d land c)
node_given d land c on h = go (find (λ n. node_has d n c) (cover_of d land)) refl
  where
    go : (o : Option Node) → find (λ n. node_has d n c) (cover_of d land) ≡ o → IsGiven d land c (unwrap_or o node.Everything)
    go None e = absurd (both_ways (has land c) (sym (cover_finds d land c on).0 ∙ ap (λ (o : Option Node). is_some o) e) h)
    go (Some n) e = record {
      has_is = (cover_finds d land c on).1 n e;
      of_cover = found_is_listed d c (cover_of d land) n e;
    }

pub refused_at_the_first : (d : ℕ) → RefusedAtTheFirst d
unfolding refused_in
refused_at_the_first d ts i p land r h = go (first_failing i p (cells_of d ts land)) refl h
  where
    go : (o : Option Failing) → first_failing i p (cells_of d ts land) ≡ o → refusal_of d land o ≡ Some r → IsRefusedAt d ts i p land r
    go None e k = absurd cc
    go (Some f) e k =
        let same : record { rule = f.rule; estate = f.estate; node = node_of d land f.cell } ≡ r = cc in
        let first = fails_first i p (cells_of d ts land) f e in
        let of_tract = each_at (λ c. is_cell_of d ts land c ≡ true) (cells_of d ts land) f.cell (cells_each d ts land) first.listed in
        let parts = and_parts (has land f.cell) (is_plant_cell d ts f.cell) of_tract in
        let on = (and_parts (is_on_grid d f.cell) (list_any (same_township f.cell.section.township) ts) parts.1).0 in
        let given = node_given d land f.cell on parts.0 in
        subst (λ (x : Refusal). IsRefusedAt d ts i p land x) same record {
          cell = f.cell;
          of_tract = of_tract;
          refuses = first.refuses;
          in_node = given.has_is;
          of_cover = given.of_cover;
          earlier_done = first.earlier_done;
        }
