-- The least examiner that passes a test.
use Rattle.std.proofs.Common.{◌≡◌, ◌≢◌, ℕ, Bool, ◌||◌, Option, Some, None, ltb, sym, ◌∙◌, arith}
use Rattle.std.proofs.lemmas.Bool.{or_from, or_left, or_right, ltb-true, ltb-false, cond_both}
use Rattle.title_lock.specs.Overlaps.{IsLeast, least}

-- the lesser of the least of two tests is the least of those that pass either
pub least_join : (a b : ℕ → Bool) (e : ℕ) (x y : Option ℕ) → IsLeast a e x → IsLeast b e y → IsLeast (λ f. a f || b f) e (least x y)
least_join a b e None None h k = λ f o. or_from (a f) (b f) (h f o) (k f o)
least_join a b e None (Some y) h k = (k.0, or_right (a y) (b y) k.1, λ g lt o. or_from (a g) (b g) (h g o) (k.2 g lt o))
least_join a b e (Some x) None h k = (h.0, or_left (a x) (b x) h.1, λ g lt o. or_from (a g) (b g) (h.2 g lt o) (k g o))
least_join a b e (Some x) (Some y) h k = cond_both (ltb x y) (Some x) (Some y) (λ (w : Option ℕ). IsLeast (λ f. a f || b f) e w)
    (λ t. let below = ltb-true x y t in (
      h.0,
      or_left (a x) (b x) h.1,
      λ g lt o. or_from (a g) (b g) (h.2 g lt o) (k.2 g (omega (arith, lt, below)) o),
    ))
    (λ t. let below = ltb-false x y t in (
      k.0,
      or_right (a y) (b y) k.1,
      λ g lt o. or_from (a g) (b g) (h.2 g (omega (arith, lt, below)) o) (k.2 g lt o),
    ))

-- two tests that agree on all others have the same least
pub least_same : (a b : ℕ → Bool) (e : ℕ) (w : Option ℕ) → ((f : ℕ) → f ≢ e → a f ≡ b f) → IsLeast a e w → IsLeast b e w
least_same a b e None same h = λ f o. sym (same f o) ∙ h f o
least_same a b e (Some x) same h = (h.0, sym (same x h.0) ∙ h.1, λ g lt o. sym (same g o) ∙ h.2 g lt o)
