-- The open transactions, by examiner. Lists have the newest first.
use Rattle.std.specs.{Prelude.{◌≡◌, ℕ, ◌<◌, Bool, true, false, cond, List, [], ◌∷◌, Option, Some, None, eqb}, Ordering.{nat_cmp}}
use Rattle.std.specs.{BTreeMap.{is_at}, Map.{lookup}}
use Rattle.title_chain.specs.declared.ask.Step.{Step}

-- what an examiner has open: its steps, and the numbers of its before-images
pub record Opened : Type 0 where
  pub steps : List Step
  pub images : List ℕ

-- a transaction that has just begun
abbrev pub nothing : Opened
nothing = record { steps = []; images = [] }

-- with a step more, or with a post that was done and its image
abbrev pub with_step : Step → Opened → Opened
with_step s t = record { steps = s ∷ t.steps; images = t.images }

abbrev pub with_post : Step → ℕ → Opened → Opened
with_post s n t = record { steps = s ∷ t.steps; images = n ∷ t.images }

-- what each examiner has open
abbrev pub found : List (ℕ × Opened) → ℕ → Option Opened
found all e = lookup (is_at (nat_cmp e)) all

-- the transaction that is open; one with nothing where none is
abbrev pub held : Option Opened → Opened
held None = nothing
held (Some t) = t

-- the same with this in an examiner's place
abbrev pub set : ℕ → Option Opened → (ℕ → Option Opened) → ℕ → Option Opened
set e o all f = cond (eqb f e) o (all f)

-- a test holds at no number, or this is the least at which it does
abbrev pub IsFirst : (ℕ → Bool) → Option ℕ → Type 0
IsFirst test None = (e : ℕ) → test e ≡ false
IsFirst test (Some e) = (test e ≡ true) × ((f : ℕ) → f < e → test f ≡ false)
