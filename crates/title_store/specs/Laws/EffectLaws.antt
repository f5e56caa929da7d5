-- A post depends on the cells of its tract, and changes no others.
use Rattle.std.{proofs.Common.{◌≡◌, ℕ, Bool, true, false, cond, List, [], ◌∷◌, Option, is_some, refl, ap, ◌∙◌}, specs.List.{AllByRecursion}}
use Rattle.title_land.specs.{declared.{survey.{Cell.{Cell}, Township.{Township}}, tract.Land.{Land}}, CellLists.{cells_of}}
use Rattle.title_instrument.specs.declared.{instrument.Instrument.{Instrument}, owners.Effect.{Effect, TheVariants.{Done, Refused}}}
use Rattle.title_instrument.specs.{declared.{owners.Owners.{Owners}, parts.Estate.{Estate}}, Effect.{cell_effect, owners_after}}
use Rattle.title_instrument.specs.{Estates.{names}, Owners.{holding_of}, Parties.{estates_of}, Laws.EffectLaws.{unnamed_in}}
use Rattle.title_store.specs.Plants.{Plant, Refusal, is_cell_of, failing_or, first_failing, refusal_of, refused_in, done_or, plant_effect}
use Rattle.title_store.specs.{StoreLaws.{RefusedSame, EffectSame, EffectOutside, EffectRefused}, Laws.Each.{each_from}}
use Rattle.title_store.specs.Laws.PlantCells.{cells_each}

failing_same : (i : Instrument ℕ) (p q : Plant) (cells : List Cell) → AllByRecursion (λ c. p c ≡ q c) cells
    → first_failing i p cells ≡ first_failing i q cells
failing_same i p q [] h = refl
failing_same i p q (c ∷ cells) h = λ k. failing_or c (cell_effect i (h.0 k)) (failing_same i p q cells h.1 k)

pub refused_same : RefusedSame
unfolding refused_in
refused_same d ts i land p q same =
    ap (refusal_of d land) (failing_same i p q (cells_of d ts land)
    (each_from (λ c. is_cell_of d ts land c ≡ true) (λ c. p c ≡ q c) _ same (cells_each d ts land)))

pub effect_same : EffectSame
unfolding plant_effect
effect_same d ts i land p q c same here = λ k.
    cond (is_some (refused_same d ts i land p q same k)) (here k)
    (cond (is_cell_of d ts land c) (done_or (here k) (cell_effect i (here k))) (here k))

pub effect_outside : EffectOutside
unfolding plant_effect
effect_outside d ts i land p c out = ap (λ (b : Bool).
    cond (is_some (refused_in d ts i p land)) (p c) (cond b (done_or (p c) (cell_effect i (p c))) (p c))) out
    ∙ go (is_some (refused_in d ts i p land))
  where
    go : (b : Bool) → cond b (p c) (p c) ≡ p c
    go true = refl
    go false = refl

pub effect_refused : EffectRefused
unfolding plant_effect
effect_refused d ts i land p c r refused = ap (λ (o : Option Refusal).
    cond (is_some o) (p c) (cond (is_cell_of d ts land c) (done_or (p c) (cell_effect i (p c))) (p c))) refused

done_is : (w : Owners) (f : Effect) → done_or w f ≡ owners_after w f
done_is w (Done after) = refl
done_is w (Refused rule e) = refl

-- a post changes no holding of an estate that its instrument doesn't name
pub effect_unnamed : (d : ℕ) (ts : List Township) (i : Instrument ℕ) (land : Land) (p : Plant) (c : Cell) (e : Estate)
    → names (estates_of i) e ≡ false → holding_of e (plant_effect d ts i p land c) ≡ holding_of e (p c)
unfolding plant_effect
effect_unnamed d ts i land p c e none = go (is_some (refused_in d ts i p land)) (is_cell_of d ts land c)
  where
    stays : holding_of e (done_or (p c) (cell_effect i (p c))) ≡ holding_of e (p c)
    stays = ap (holding_of e) (done_is (p c) (cell_effect i (p c))) ∙ unnamed_in i (p c) (cell_effect i (p c)) refl e none

    go : (a b : Bool) → holding_of e (cond a (p c) (cond b (done_or (p c) (cell_effect i (p c))) (p c))) ≡ holding_of e (p c)
    go true b = refl
    go false true = stays
    go false false = refl
