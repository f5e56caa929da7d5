-- What each examiner has open, after one's was set too.
use Rattle.std.proofs.Common.{◌≡◌, ◌≢◌, ℕ, Bool, true, false, cond, [], ◌∷◌, ◌++◌, map, reverse, refl, ap, ◌∙◌, sym, subst, Option, Some}
use Rattle.std.{proofs.Common.{List, None, is_some, Result, Ok, Err, OnOk, OnErr}, specs.BTreeMap.{BTreeMap, WritesThrough, is_at}}
use Rattle.std.proofs.{Math.Path.{fun_ext}, lemmas.{Bool.{eq-eqb, ne_eqb}, List.{map-append, reverse-append, reverse-reverse}}}
use Rattle.std.{proofs.lemmas.Map.Steps.{set_value_same}, specs.{Ordering.{nat_cmp}, Option.{IsSome}, Cmp.{unsigned_tied, nat_eq_equiv}}}
use Rattle.title_desk.specs.Opened.{Opened, found, held, set}
use Rattle.title_store.specs.Laws.Taken.{case_eqb}

-- what is open after a map was written at an examiner
pub set_at : (e : ℕ) (o : Option Opened) (old new : BTreeMap ℕ Opened) →
    ((f : ℕ) → found new.entries f ≡ cond (is_at (nat_cmp e) f) o (found old.entries f)) → found new.entries ≡ set e o (found old.entries)
set_at e o old new h = fun_ext (λ f. h f ∙ ap (λ b. cond b o (found old.entries f)) (unsigned_tied e f ∙ nat_eq_equiv.symm e f))

-- a transaction that was lent was changed, unless an error came
pub written : {T E : Type 0} (change : Opened → Opened) (r : Result T E) (e : ℕ) (t w : Opened) (old new : BTreeMap ℕ Opened)
    → found old.entries e ≡ Some t → WritesThrough nat_cmp (nat_cmp e) old w new → OnOk r (w ≡ change t) → OnErr r (w ≡ t) →
    OnOk r (found new.entries ≡ set e (Some (change (held (found old.entries e)))) (found old.entries))
    × OnErr r (found new.entries ≡ found old.entries)
written change (Ok x) e t w old new at h made same = (
  set_at e (Some w) old new (h.3 (subst IsSome (sym at) refl)).0
      ∙ ap (λ y. set e (Some y) (found old.entries)) (made ∙ ap (λ o. change (held o)) (sym at)),
  same,
)
written change (Err x) e t w old new at h made same =
    (made, ap found (h.0 ∙ set_value_same (is_at (nat_cmp e)) old.entries w (at ∙ ap Some (sym same))))

-- what is so of the one that was set and of all others
pub at_set : (P : ℕ → Option Opened → Type 0) (e : ℕ) (o : Option Opened) (all : ℕ → Option Opened) → P e o
    → ((f : ℕ) → f ≢ e → P f (all f)) → (f : ℕ) → P f (set e o all f)
at_set P e o all mine others f = case_eqb (λ b. P f (cond b o (all f))) f e (λ same. subst (λ g. P g o) (sym same) mine) (others f)

pub set_here : (e : ℕ) (o : Option Opened) (all : ℕ → Option Opened) → set e o all e ≡ o
set_here e o all = ap (λ b. cond b o (all e)) (eq-eqb e e refl)

pub set_other : (e : ℕ) (o : Option Opened) (all : ℕ → Option Opened) (f : ℕ) → f ≢ e → set e o all f ≡ all f
set_other e o all f ne = ap (λ b. cond b o (all f)) (ne_eqb f e ne)

pub view_cond : {A X : Type 0} (view : A → X) (b : Bool) (x y : A) → view (cond b x y) ≡ cond b (view x) (view y)
view_cond view true x y = refl
view_cond view false x y = refl

pub none_from : {A : Type 0} (o : Option A) → is_some o ≡ false → o ≡ None
none_from None h = refl
none_from (Some x) h = absurd cc

-- ---- lists that grow at their ends

-- the newest first, one more stands before the others
pub newest : {X : Type 0} (xs : List X) (x : X) → reverse (xs ++ x ∷ []) ≡ x ∷ reverse xs
newest xs x = reverse-append xs (x ∷ [])

pub newest_number : {X : Type 0} (number : X → ℕ) (xs : List X) (x : X)
    → map number (reverse (xs ++ x ∷ [])) ≡ number x ∷ map number (reverse xs)
newest_number number xs x = ap (map number) (newest xs x)

map_reverse : {X Y : Type 0} (f : X → Y) (xs : List X) → map f (reverse xs) ≡ reverse (map f xs)
map_reverse f [] = refl
map_reverse f (x ∷ xs) =
    ap (map f) (reverse-append (x ∷ []) xs) ∙ map-append f (reverse xs) (x ∷ []) ∙ ap (λ z. z ++ f x ∷ []) (map_reverse f xs)
    ∙ sym (reverse-append (f x ∷ []) (map f xs))

-- the numbers of images, the oldest first
pub oldest_first : {I : Type 0} (number : I → ℕ) (images : List I) → reverse (map number (reverse images)) ≡ map number images
oldest_first number images = sym (map_reverse number (reverse images)) ∙ ap (map number) (reverse-reverse images)
