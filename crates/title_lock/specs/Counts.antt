-- How many examiners have a mode.
use Rattle.std.specs.{Prelude.{ℕ, ◌≡◌, ◌↔◌, ◌==◌, Bool, true, false, List, [], ◌∷◌, length, slice_index, Option, Some}, List.{list_any}}
use Rattle.title_lock.specs.{declared.modes.Mode.{Mode}, Modes.{in_row}}

abbrev pub member : ℕ → List ℕ → Bool
member f es = list_any (λ e. f == e) es

abbrev pub NoRepeat : List ℕ → Type 0
NoRepeat [] = Unit {0}
NoRepeat (e ∷ es) = (member e es ≡ false) × NoRepeat es

-- k examiners have mode m, where each holds this: as many stand in a list of exactly those, none of them twice
abbrev pub IsCount : (ℕ → Option Mode) → Mode → ℕ → Type 0
IsCount held m k = (es : List ℕ) × NoRepeat es × ((f : ℕ) → (member f es ≡ true) ↔ (held f ≡ Some m)) × (length es ≡ k)

-- the number of mode m among five, in the order IS, IX, S, SIX, X
abbrev pub in_order : List ℕ → Mode → ℕ
in_order ns = in_row (slice_index ns 0) (slice_index ns 1) (slice_index ns 2) (slice_index ns 3) (slice_index ns 4)
