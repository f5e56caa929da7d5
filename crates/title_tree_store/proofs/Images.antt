-- Images that are out, in the order of their numbers.
use Rattle.std.proofs.Common.{◌≢◌, sym, refl, subst, ◌<◌, arith, inl, inr, List, [], ◌∷◌, ◌++◌}
use Rattle.title_tree_store.specs.{declared.lent.Lent.{Lent}, Keeping.{Rises}}
use Rattle.title_land.specs.Laws.Members.{In, in_append, in_last, in_middle, in_more}

pub less_before : (x l : Lent) (before later : List Lent) → Rises (before ++ l ∷ later) → In x before → x.number < l.number
less_before x l [] later r i = absurd i
less_before x l (y ∷ before) later r i = elim i [
  | inl e ↦ subst (λ (z : Lent). z.number < l.number) (sym e) (r.0 l (in_middle l before later))
  | inr k ↦ less_before x l before later r.1 k
]

pub more_later : (x l : Lent) (before later : List Lent) → Rises (before ++ l ∷ later) → In x later → l.number < x.number
more_later x l [] later r i = r.0 x i
more_later x l (y ∷ before) later r i = more_later x l before later r.1 i

pub rises_less : (l : Lent) (before later : List Lent) → Rises (before ++ l ∷ later) → Rises (before ++ later)
rises_less l [] later r = r.1
rises_less l (y ∷ before) later r = (λ x i. r.0 x (in_more x l before later i), rises_less l before later r.1)

pub rises_apart : (l : Lent) (before later : List Lent) → Rises (before ++ l ∷ later) → (x : Lent) → In x (before ++ later)
    → x.number ≢ l.number
rises_apart l before later r x i e = elim (in_append x before later i) [
  | inl j ↦ let h = less_before x l before later r j in omega (arith, h, e)
  | inr j ↦ let h = more_later x l before later r j in omega (arith, h, e)
]

-- a fact of each of some images and of one more
pub pushed : (P : Lent → Type 0) (lent : List Lent) (l : Lent) → ((x : Lent) → In x lent → P x) → P l → (x : Lent) → In x (lent ++ l ∷ [])
    → P x
pushed P lent l old new x i = elim (in_last x l lent i) [ inl k ↦ old x k | inr e ↦ subst P (sym e) new ]

pub rises_more : (lent : List Lent) (l : Lent) → Rises lent → ((x : Lent) → In x lent → x.number < l.number) → Rises (lent ++ l ∷ [])
rises_more [] l r h = (λ x i. absurd i, tt)
rises_more (y ∷ lent) l r h = (pushed (λ x. y.number < x.number) lent l r.0 (h y (inl refl)), rises_more lent l r.1 (λ x i. h x (inr i)))
