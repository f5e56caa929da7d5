-- A post alone: what was put in is joined at once; where it stopped what was quartered is joined again, and the plant is as it was.
use Rattle.std.proofs.Common.{◌≡◌, ◌∙◌, sym, subst, ℕ, true, None, List, [], length, Result, Ok, Err, OnOk, OnErr}
use Rattle.title_land.specs.{Depth.{depth}, declared.{survey.{Township.{Township}, Cell.{Cell}}, tract.Land.{Land}}, Lands.{is_in_plant}}
use Rattle.title_instrument.specs.declared.{parts.Estate.{Estate}, instrument.Instrument.{Instrument}}
use Rattle.title_store.specs.Plants.{refused_in, plant_effect}
use Rattle.title_tree_store.specs.declared.{lent.Lent.{Lent}, forest.Forest.{Forest}}
use Rattle.title_tree_store.specs.{Grounds.{Everywhere}, Forests.{Each, grounds, plots, IsSettled, IsRejoined}, Spots.{ways_in}}
use Rattle.title_tree_store.{specs.Keeping.{content_of, IsKept}, proofs.Puts.{none_settled, settled_shows, kept_settled}}
use Rattle.title_tree_store.proofs.{CellPaths.{tract_short}, Contents.{each, everywhere, content_agrees}, Keeps.{kept_none}}

module _ (ts : List Township) (old new : Forest) (lent : List Lent) (n : ℕ) (kept : IsKept ts old lent n) (none : lent ≡ []) (x : Land)
    (i : Instrument ℕ) (of : is_in_plant ts x ≡ true) (sized : Each (λ e. length (grounds new e) ≡ length (grounds old e))) where
  abbrev Done : Type 0
  Done = Each (λ e. Everywhere (length (grounds old e)) (λ a b. IsSettled i e (ways_in ts x a b) (plots old e a b) (plots new e a b)))

  abbrev Stopped : Type 0
  Stopped = Each (λ e. Everywhere (length (grounds old e)) (λ a b. IsRejoined (ways_in ts x a b) (plots old e a b) (plots new e a b)))

  -- ---- it is done

  settled : Done → (e : Estate) → Everywhere (length ts) (λ a b. IsSettled i e (ways_in ts x a b) (plots old e a b) (plots new e a b))
  settled done e = everywhere (kept.sized e) (each done e)

  pub done_none : Done → refused_in depth ts i (content_of ts (plots old)) x ≡ None
  done_none done = none_settled kept x i of new (each sized) (settled done)

  pub done_shows : Done → (c : Cell) → content_of ts (plots new) c ≡ plant_effect depth ts i (content_of ts (plots old)) x c
  done_shows done = settled_shows kept x i of new (each sized) (settled done)

  -- ---- it stopped

  rejoined : Stopped → (e : Estate) → Everywhere (length ts) (λ a b. IsRejoined (ways_in ts x a b) (plots old e a b) (plots new e a b))
  rejoined stopped e = everywhere (kept.sized e) (each stopped e)

  pub stopped_same : Stopped → content_of ts (plots new) ≡ content_of ts (plots old)
  stopped_same stopped = λ k c. content_agrees ts (plots old) (plots new) (λ e a b l m p. (rejoined stopped e a b l m).content p) c k

  -- ---- either way

  pub kept_alone : {A E : Type 0} (r : Result A E) → OnOk r Done → OnErr r Stopped → IsKept ts new lent n
  kept_alone (Ok a) done _ = kept_settled kept x i of new (each sized) (settled done) none
  kept_alone (Err f) _ stopped = subst (λ (z : List Lent). IsKept ts new z n) (sym none) (kept_none n (λ e. each sized e ∙ kept.sized e)
      (λ e a b l m. (rejoined stopped e a b l m).within depth (tract_short ts x a b) (kept.fit e a b l m)))
