-- Who is inside a transaction after one has begun or ended.
use Rattle.std.proofs.Common.{◌≡◌, ◌∙◌, sym, ap, refl, ℕ, List, [], ◌∷◌, Bool, true, false, cond, ◌==◌, ◌||◌, eqb, Some, inl, inr}
use Rattle.std.proofs.lemmas.{Bool.{cases_Bool, eqb-true}, List.Folds.{list_any-append}}
use Rattle.title_trace.specs.{declared.call.Request.{Request}, Trace.{examiner_of}}
use Rattle.title_plan.specs.declared.line.Line.TheVariants as line
use Rattle.title_plan.specs.declared.line.Schedule.TheVariants as schedule
use Rattle.title_plan.specs.Plans.{is_inside, with_begun, with_ended}
use Rattle.title_dealing.specs.Turns.{turn_after, turn_on}

-- two numbers differ where one is a third and the other isn't
other : (a b c : ℕ) → eqb a b ≡ true → eqb c b ≡ false → eqb a c ≡ false
other a b c same differ = elim (cases_Bool (eqb a c)) [
  | inl is ↦
      let e : c ≡ a = sym (eqb-true a c is) in
      let t : eqb c b ≡ true = rw e same in
      let wrong : false ≡ true = rw differ at t in
      absurd (cc wrong)
  | inr isnt ↦ isnt
]

-- and where both are
third : (a b c : ℕ) → eqb a b ≡ false → eqb c b ≡ true → eqb a c ≡ false
third a b c differ same = elim (cases_Bool (eqb a c)) [
  | inl is ↦
      let e : a ≡ c = eqb-true a c is in
      let t : eqb a b ≡ true = rw e same in
      let wrong : false ≡ true = rw differ at t in
      absurd (cc wrong)
  | inr isnt ↦ isnt
]

pub ended : (inside : List ℕ) (e f : ℕ) → is_inside (with_ended inside e) f ≡ cond (eqb f e) false (is_inside inside f)
ended [] e f = elim (cases_Bool (eqb f e)) [ inl same ↦ rw same refl | inr differ ↦ rw differ refl ]
ended (g ∷ inside) e f = elim (cases_Bool (eqb g e)) [
  | inl out ↦ elim (cases_Bool (eqb f e)) [
    | inl same ↦ let ih = ended inside e f in rw out (ih ∙ rw same refl)
    | inr differ ↦ let ih = ended inside e f in rw (out, other g e f out differ) ih
  ]
  | inr stays ↦ elim (cases_Bool (eqb f e)) [
    | inl same ↦ let ih = ended inside e f in rw (stays, third g e f stays same, same) (ih ∙ rw same refl)
    | inr differ ↦ let ih = ended inside e f in rw (stays, ih, differ) refl
  ]
]

flip : (a b : ℕ) → eqb a b ≡ eqb b a
flip a b = elim (cases_Bool (eqb b a)) [
  | inl same ↦ let e : b ≡ a = eqb-true b a same in rw e refl
  | inr differ ↦ elim (cases_Bool (eqb a b)) [
    | inl same ↦ let e : a ≡ b = eqb-true a b same in rw e refl
    | inr none ↦ rw (differ, none) refl
  ]
]

added : (same was : Bool) → (cond same false was || (same || false)) ≡ cond same true was
added true was = refl
added false true = refl
added false false = refl

pub begun : (number e f : ℕ) (inside : List ℕ)
    → is_inside (with_begun (schedule.Office number) inside e) f ≡ cond (eqb f e) true (is_inside inside f)
begun number e f inside =
    list_any-append (λ g. g == f) (with_ended inside e) (e ∷ [])
    ∙ rw (ended inside e f, flip e f) (added (eqb f e) (is_inside inside f))

-- a request of an examiner that is inside or not, after which it is or not
pub turned : (inside : List ℕ) (q : Request) (was after : Bool) → is_inside inside (examiner_of q) ≡ was → turn_after was q ≡ Some after
    → (f : ℕ) → turn_on f (Some (is_inside inside f)) (line.Asks q) ≡ Some (cond (eqb f (examiner_of q)) after (is_inside inside f))
turned inside q was after is turn f = elim (cases_Bool (eqb f (examiner_of q))) [
  | inl same ↦
      let own : f ≡ examiner_of q = eqb-true f (examiner_of q) same in
      rw same (ap (λ (g : ℕ). turn_after (is_inside inside g) q) own ∙ ap (λ (b : Bool). turn_after b q) is ∙ turn)
  | inr differ ↦ rw differ refl
]

-- one that stays inside
pub stays : (inside : List ℕ) (e : ℕ) → is_inside inside e ≡ true → (f : ℕ) → cond (eqb f e) true (is_inside inside f) ≡ is_inside inside f
stays inside e is f = elim (cases_Bool (eqb f e)) [
  | inl same ↦ let own : f ≡ e = eqb-true f e same in rw same (sym (rw own is))
  | inr differ ↦ rw differ refl
]
