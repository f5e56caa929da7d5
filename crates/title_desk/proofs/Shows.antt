-- Sheets that are kept stay the sheets of the plant.
use Rattle.std.proofs.{Common.{◌≡◌, List, ap, sym, subst, ◌∙◌}, Math.Path.{fun_ext}}
use Rattle.title_land.specs.{Depth.{depth}, declared.{survey.Township.{Township}, tract.Land.{Land}}}
use Rattle.title_instrument.specs.{declared.instrument.Instrument.{Instrument}, Owners.{holding_of}, Parties.{estates_of}}
use Rattle.title_store.specs.{Plants.{Plant, SameContent, plant_effect}, Laws.EffectLaws.{effect_outside, effect_unnamed}}
use Rattle.title_desk.specs.{declared.kept_sheets.KeptSheets.{KeptSheets}, Shown.{AreKept, AreLeft}}

-- where no cell changes
pub kept_same : (ts ts' : List Township) (p q : Plant) (kept : KeptSheets) → ts' ≡ ts → SameContent p q → AreKept ts p kept
    → AreKept ts' q kept
kept_same ts ts' p q kept declared same are =
    subst (λ t. AreKept t q kept) (sym declared) (subst (λ r. AreKept ts r kept) (sym (fun_ext same)) are)

-- after a post what is left are sheets still
pub kept_left : (ts ts' : List Township) (land : Land) (i : Instrument _) (p q : Plant) (old new : KeptSheets) → ts' ≡ ts
    → SameContent (plant_effect depth ts i p land) q → AreLeft land (estates_of i) old new → AreKept ts p old → AreKept ts' q new
kept_left ts ts' land i p q old new declared changed left are = subst (λ t. AreKept t q new) (sym declared)
    (left ts p q (λ c out. changed c ∙ effect_outside depth ts i land p c out)
    (λ c e none. ap (holding_of e) (changed c) ∙ effect_unnamed depth ts i land p c e none) are)
