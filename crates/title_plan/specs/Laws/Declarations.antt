-- What a declaration does, case by case, and that no township stands twice.
use Rattle.std.proofs.Common.{◌≡◌, ◌≤◌, ◌+◌, List, [], ◌∷◌, ◌++◌, Bool, true, false, ◌∙◌}
use Rattle.std.{proofs.{Common.{length, nat_le, refl, arith}, lemmas.Bool.Decides.{nat_tests}}, specs.List.{list_any}}
use Rattle.std.proofs.lemmas.{Bool.{and_parts, not-true, or_parts, or_from}, List.Folds.{list_any-append}}
use Rattle.title_land.specs.{declared.survey.Township.{Township}, Survey.{same_township}}
use Rattle.title_store.specs.Plants.{IsEachOnce}
use Rattle.title_plan.specs.Townships.{each_once, is_refused}
use Rattle.title_chain.specs.Alone.{most_parties}
use Rattle.title_trace.specs.Due.{MayOpen, most_townships}

-- one township more, where that is not too many
pub township_few : (townships : List Township) (t : Township) → is_refused townships t ≡ false → length townships + 1 ≤ most_townships
township_few townships t h = let few = (or_parts (nat_le most_townships (length townships)) _ h).0 in grind (arith, nat_tests)

-- ---- no township twice

any_push : (p : Township → Bool) (townships : List Township) (t : Township) → list_any p townships ≡ false → p t ≡ false
    → list_any p (townships ++ t ∷ []) ≡ false
any_push p townships t h k = list_any-append p townships (t ∷ []) ∙ or_from _ _ h (rw k refl)

-- a township that isn't in the list comes to its end
once_push : (townships : List Township) (t : Township) → each_once townships ≡ true
    → list_any (λ other. same_township other t) townships ≡ false
    → each_once (townships ++ t ∷ []) ≡ true
once_push [] t h k = refl
once_push (o ∷ townships) t h k =
    let apart = or_parts (same_township o t) (list_any (λ other. same_township other t) townships) k in
    let parts = and_parts _ _ h in
    rw (any_push (same_township o) townships t (not-true _ parts.0) apart.0, once_push townships t parts.1 apart.1) refl

-- one that isn't refused stands once
pub township_once : (townships : List Township) (t : Township) → each_once townships ≡ true → is_refused townships t ≡ false
    → each_once (townships ++ t ∷ []) ≡ true
township_once townships t h k = once_push townships t h (or_parts _ _ k).1

-- the test says that each stands once
pub once_said : (townships : List Township) → each_once townships ≡ true → IsEachOnce townships
once_said [] h = tt
once_said (t ∷ townships) h = let parts = and_parts _ _ h in (not-true _ parts.0, once_said townships parts.1)

-- a desk can be opened with townships that are declared, and with as many parties as may be
pub may_open : (townships : List Township) → length townships ≤ most_townships → each_once townships ≡ true
    → MayOpen most_parties townships
may_open townships few once = (omega arith, omega arith, few, once_said townships once)
