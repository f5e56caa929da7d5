-- A post that stopped, since memory was short or a cell refused it, after trees were quartered: the plant is as it was.
use Rattle.std.proofs.Common.{◌≡◌, ◌≢◌, ◌∙◌, ap, sym, subst, ℕ, ◌<◌, true, List, length, Some, None}
use Rattle.title_land.specs.{Depth.{depth}, declared.{survey.{Township.{Township}, Cell.{Cell}}, tract.Land.{Land}}, Lands.{is_in_plant}}
use Rattle.title_instrument.specs.declared.{parts.{Estate.{Estate}, Rule.{Rule}}, instrument.Instrument.{Instrument}}
use Rattle.title_store.specs.Plants.{Plant, Refusal, IsEachOnce, plant_effect, refused_in}
use Rattle.title_tree.specs.declared.change.Fault.TheVariants.{Refused as Told}
use Rattle.title_tree_store.specs.declared.{lent.Lent.{Lent}, forest.Forest.{Forest}}
use Rattle.title_tree_store.specs.{Grounds.{TellsSomewhere}, Forests.{grounds, plots, refusal_in, IsQuartered}}
use Rattle.title_tree_store.specs.Spots.{ways_in, home_in, tract_ways}
use Rattle.title_tree_store.specs.Keeping.{content_of, loans_of, IsKept}
use Rattle.title_tree_store.proofs.{Contents.{each, everywhere, content_agrees}, Loans.{loans_refined}, Puts.{some_refused, refused_keeps}}

module _ (ts : List Township) (old mid : Forest) (lent : List Lent) (n : ℕ) (kept : IsKept ts old lent n) (x : Land) (i : Instrument ℕ)
    (q : IsQuartered i (home_in ts x) (tract_ways x) old mid) where
  pub same_plant : content_of ts (plots mid) ≡ content_of ts (plots old)
  same_plant = λ k c. content_agrees ts (plots old) (plots mid)
      (λ e a b l m p. (everywhere (kept.sized e) (each q.split e).refines a b l m).content p) c k

  pub same_loans : loans_of ts (plots mid) lent ≡ loans_of ts (plots old) lent
  same_loans = loans_refined ts (plots old) (plots mid) lent (λ e. everywhere (kept.sized e) (each q.split e).refines)

-- where the plant is the same
module _ (ts : List Township) (old new : Forest) (x : Land) (i : Instrument ℕ) (same : content_of ts (plots new) ≡ content_of ts (plots
    old)) where
  -- a post that a leaf has refused is refused
  pub fails : {lent : List Lent} {n : ℕ} → IsKept ts old lent n → IsEachOnce ts → is_in_plant ts x ≡ true → (e : Estate) (rule : Rule)
      → TellsSomewhere (Told rule) (length (grounds old e)) (λ a b. refusal_in i e (ways_in ts x a b) (plots old e a b))
      → refused_in depth ts i (content_of ts (plots new)) x ≢ None
  fails kept once of e rule told none =
      some_refused kept once x i of e rule told.0 told.1 (subst (λ (m : ℕ). told.0 < m) (kept.sized e) told.2) told.3 told.4
      (ap (λ (p : Plant). refused_in depth ts i p x) (sym same) ∙ none)

  pub refused : (r : Refusal) → refused_in depth ts i (content_of ts (plots new)) x ≡ Some r
      → refused_in depth ts i (content_of ts (plots old)) x ≡ Some r
  refused r h = ap (λ (p : Plant). refused_in depth ts i p x) (sym same) ∙ h

  pub refused_plant : (r : Refusal) → refused_in depth ts i (content_of ts (plots new)) x ≡ Some r → (c : Cell)
      → content_of ts (plots new) c ≡ plant_effect depth ts i (content_of ts (plots old)) x c
  refused_plant r h c = ap (λ (p : Plant). p c) same ∙ sym (refused_keeps ts x i (content_of ts (plots old)) r (refused r h) c)
