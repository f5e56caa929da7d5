-- Lists of parts that grow at their end.
use Rattle.std.proofs.Common.{◌≡◌, ◌∙◌, ◌<◌, List, [], ◌∷◌, ◌++◌, length, refl, ap, arith}
use Rattle.title_land.specs.declared.rectangle.Step.{Step}
use Rattle.title_aliquot.specs.{declared.syntax.Entry.{Entry}, Entries.{leading, parts_in, with_step}}
use Rattle.title_aliquot.specs.declared.syntax.Entry.TheVariants as entry

-- ---- a part begins

pub leading_begun : (es : List Entry) → leading (es ++ entry.Part ∷ []) ≡ leading es
leading_begun [] = refl
leading_begun (entry.Part ∷ es) = refl
leading_begun (entry.Step s ∷ es) = ap (λ (z : List Step). s ∷ z) (leading_begun es)

pub parts_begun : (es : List Entry) → parts_in (es ++ entry.Part ∷ []) ≡ parts_in es ++ [] ∷ []
parts_begun [] = refl
parts_begun (entry.Part ∷ es) = rw (leading_begun es, parts_begun es) refl
parts_begun (entry.Step s ∷ es) = parts_begun es

-- ---- a step is added

leading_last : (es : List Entry) (s : Step) → parts_in es ≡ [] → leading (es ++ entry.Step s ∷ []) ≡ leading es ++ s ∷ []
leading_last [] s h = refl
leading_last (entry.Part ∷ es) s h = absurd cc
leading_last (entry.Step t ∷ es) s h = ap (λ (z : List Step). t ∷ z) (leading_last es s h)

leading_kept : (es : List Entry) (s : Step) (p : List Step) (ps : List (List Step)) → parts_in es ≡ p ∷ ps →
    leading (es ++ entry.Step s ∷ []) ≡ leading es
leading_kept [] s p ps h = absurd cc
leading_kept (entry.Part ∷ es) s p ps h = refl
leading_kept (entry.Step t ∷ es) s p ps h = ap (λ (z : List Step). t ∷ z) (leading_kept es s p ps h)

-- the list of parts that begins with the part whose steps are these, given the parts behind it
part_grown : (es : List Entry) (s : Step) (parts : List (List Step)) → parts_in es ≡ parts →
    parts_in (es ++ entry.Step s ∷ []) ≡ with_step parts s →
    leading (es ++ entry.Step s ∷ []) ∷ parts_in (es ++ entry.Step s ∷ []) ≡ with_step (leading es ∷ parts) s
part_grown es s [] h k = rw (leading_last es s h, k) refl
part_grown es s (p ∷ ps) h k = rw (leading_kept es s p ps h, k) refl

pub parts_pushed : (es : List Entry) (s : Step) → parts_in (es ++ entry.Step s ∷ []) ≡ with_step (parts_in es) s
parts_pushed [] s = refl
parts_pushed (entry.Part ∷ es) s = part_grown es s (parts_in es) refl (parts_pushed es s)
parts_pushed (entry.Step t ∷ es) s = parts_pushed es s

leading_by : (es : List Entry) (s : Step) (parts : List (List Step)) → parts_in es ≡ parts → 0 < length parts →
    leading (es ++ entry.Step s ∷ []) ≡ leading es
leading_by es s [] h l = absurd (omega arith)
leading_by es s (p ∷ ps) h l = leading_kept es s p ps h

pub leading_pushed : (es : List Entry) (s : Step) → leading es ≡ [] → 0 < length (parts_in es) → leading (es ++ entry.Step s ∷ []) ≡ []
leading_pushed es s h l = leading_by es s (parts_in es) refl l ∙ h

-- ---- lists of parts

pub with_step-length : (parts : List (List Step)) (s : Step) → length (with_step parts s) ≡ length parts
with_step-length [] s = refl
with_step-length (p ∷ []) s = refl
with_step-length (p ∷ (q ∷ ps)) s = let h = with_step-length (q ∷ ps) s in omega (arith, h)

pub with_step-last : (parts : List (List Step)) (p : List Step) (s : Step) → with_step (parts ++ p ∷ []) s ≡ parts ++ (p ++ s ∷ []) ∷ []
with_step-last [] p s = refl
with_step-last (q ∷ []) p s = refl
with_step-last (q ∷ (r ∷ parts)) p s = ap (λ (z : List (List Step)). q ∷ z) (with_step-last (r ∷ parts) p s)
