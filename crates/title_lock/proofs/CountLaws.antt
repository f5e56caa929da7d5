-- How many examiners have a mode: after one examiner's mode has changed, and what a small number tells of the others.
use Rattle.std.proofs.Common.{◌≡◌, ◌≢◌, ◌+◌, ◌≤◌, ◌<◌, ◌^◌, ℕ, Bool, true, false, cond, not, ◌&&◌, ◌||◌, List, [], ◌∷◌}
use Rattle.std.proofs.Common.{filter, length, Option, Some, None, is_some, eqb, refl, sym, ap, subst, ◌∙◌, arith, ◌↔◌}
use Rattle.std.proofs.lemmas.Bool.{eqb-true, eq-eqb, ne_eqb, false_from_ne_true, both_ways, and_right, cond_both, cond-true}
use Rattle.std.{proofs.lemmas.Bool.{cond-false, or_parts, Decides.{nat_tests}}, specs.List.{AllByRecursion, IsDistinct}}
use Rattle.std.proofs.lemmas.Map.{Steps.{length-le_from_distinct_below}, Views.{any-filter_same}}
use Rattle.title_lock.specs.{declared.modes.Mode.{Mode}, Counts.{member, NoRepeat, IsCount}, declared.counts.Counts.{Counts}}
use Rattle.title_lock.proofs.ModeLaws.{at_each, same_mode_true}
use Rattle.title_lock.specs.Holders.{Modes, holder_mode, clashes, same_mode, has_mode, own_part, count_in, leaves, is_clear, AreCounted}

-- ---- modes

same_self : (m : Mode) → same_mode m m ≡ true
same_self m = at_each (λ z. same_mode z z) refl m

has_true : (o : Option Mode) (m : Mode) → has_mode o m ≡ true → o ≡ Some m
has_true o m h = grind (arith, same_mode_true)

has_self : (o : Option Mode) (m : Mode) → o ≡ Some m → has_mode o m ≡ true
has_self o m h = ap (λ (z : Option Mode). has_mode z m) h ∙ same_self m

-- one who has a mode is one of those with it
pub own_one : (m : Mode) → own_part (Some m) m ≡ 1
own_one m = ap (λ (b : Bool). cond b 1 0) (same_self m)

-- ---- lists of examiners, none twice

abbrev but : ℕ → List ℕ → List ℕ
but e es = filter (λ g. not (eqb g e)) es

member_but : (e f : ℕ) (es : List ℕ) → member f (but e es) ≡ (not (eqb f e) && member f es)
member_but e f es = any-filter_same (eqb f) (λ g. not (eqb g e)) (not (eqb f e))
    (λ k t. ap (λ (g : ℕ). not (eqb g e)) (sym (eqb-true f k t))) es

no_repeat_but : (e : ℕ) (es : List ℕ) → NoRepeat es → NoRepeat (but e es)
no_repeat_but e [] d = tt
no_repeat_but e (x ∷ es) d = cond_both (not (eqb x e)) (x ∷ but e es) (but e es) (λ (l : List ℕ). NoRepeat l)
    (λ t. (member_but e x es ∙ and_right (not (eqb x e)) (member x es) d.0, no_repeat_but e es d.1)) (λ t. no_repeat_but e es d.1)

abbrev one_if : Bool → ℕ
one_if b = cond b 1 0

length_but : (e : ℕ) (es : List ℕ) → NoRepeat es → length (but e es) + one_if (member e es) ≡ length es
length_but e [] d = refl
length_but e (x ∷ es) d = grind (arith, nat_tests, length_but e es d.1, d.0)

member_some : (f : ℕ) (es : List ℕ) → member f es ≡ true → 1 ≤ length es
member_some f [] h = absurd cc
member_some f (x ∷ es) h = omega arith

-- none twice in std's words
none_equal : (x : ℕ) (es : List ℕ) → member x es ≡ false → AllByRecursion (λ y. eqb x y ≡ false) es
none_equal x [] h = tt
none_equal x (y ∷ es) h = let parts = or_parts (eqb x y) (member x es) h in (parts.0, none_equal x es parts.1)

distinct : (es : List ℕ) → NoRepeat es → IsDistinct eqb es
unfolding IsDistinct
distinct [] d = tt
distinct (x ∷ es) d = (none_equal x es d.0, distinct es d.1)

-- ---- counts

-- both ways of an equivalence are an equation of tests
as_test : (b : Bool) (o : Option Mode) (m : Mode) → ((b ≡ true) ↔ (o ≡ Some m)) → b ≡ has_mode o m
as_test true o m h = sym (has_self o m (h.0 refl))
as_test false o m h = sym (false_from_ne_true (has_mode o m) (λ t. both_ways false refl (h.1 (has_true o m t))))

from_test : (b : Bool) (o : Option Mode) (m : Mode) → b ≡ has_mode o m → (b ≡ true) ↔ (o ≡ Some m)
from_test b o m h = ((λ t. has_true o m (sym h ∙ t)), (λ t. h ∙ has_self o m t))

-- nobody has a mode
pub count_none : (held : ℕ → Option Mode) (m : Mode) → ((f : ℕ) → held f ≡ None) → IsCount held m 0
count_none held m none = ([], tt, (λ f. from_test false (held f) m (sym (ap (λ (o : Option Mode). has_mode o m) (none f)))), refl)

-- where each holds the same, the count is the same
pub count_same : (held now : ℕ → Option Mode) (m : Mode) (k : ℕ) → ((f : ℕ) → now f ≡ held f) → IsCount held m k → IsCount now m k
count_same held now m k same (es, once, are, long) =
    (es, once, (λ f. ((λ h. same f ∙ (are f).0 h), (λ h. (are f).1 (sym (same f) ∙ h)))), long)

-- an examiner with the mode is counted
pub own_counted : (held : ℕ → Option Mode) (m : Mode) (k e : ℕ) → IsCount held m k → own_part (held e) m ≤ k
own_counted held m k e (es, once, are, long) = grind (arith, as_test (member e es) (held e) m (are e), member_some e es, long)

-- a count of examiners below n is at most n
pub count_few : (held : ℕ → Option Mode) (m : Mode) (k n : ℕ) → ((f : ℕ) → is_some (held f) ≡ true → f < n) → IsCount held m k → k ≤ n
count_few held m k n low (es, once, are, long) =
    let few = length-le_from_distinct_below es n (distinct es once)
    (λ f h. low f (ap (λ (o : Option Mode). is_some o) ((are f).0 h))) in
    omega (arith, few, long)

-- the counted without an examiner, who is one of them where it has the mode
left_but : (held : ℕ → Option Mode) (m : Mode) (e : ℕ) (es : List ℕ) → NoRepeat es
    → ((f : ℕ) → (member f es ≡ true) ↔ (held f ≡ Some m)) → length (but e es) + own_part (held e) m ≡ length es
left_but held m e es once are =
    ap (λ (b : Bool). length (but e es) + one_if b) (sym (as_test (member e es) (held e) m (are e))) ∙ length_but e es once

-- another is among them where it has the mode
other_in : (held : ℕ → Option Mode) (m : Mode) (e f : ℕ) (es : List ℕ) → ((member f es ≡ true) ↔ (held f ≡ Some m)) → f ≢ e
    → member f (but e es) ≡ has_mode (held f) m
other_in held m e f es are other =
    member_but e f es ∙ ap (λ (b : Bool). not b && member f es) (ne_eqb f e other) ∙ as_test (member f es) (held f) m are

-- where no more are counted than the examiner itself is, no other has the mode
none_other : (held : ℕ → Option Mode) (m : Mode) (k e f : ℕ) → IsCount held m k → k ≤ own_part (held e) m → f ≢ e
    → has_mode (held f) m ≡ false
none_other held m k e f (es, once, are, long) few other = false_from_ne_true (has_mode (held f) m) (λ t.
    let some = member_some f (but e es) (other_in held m e f es (are f) other ∙ t) in
    let left = left_but held m e es once are in
    omega (arith, some, left, few, long))

-- one examiner's mode has changed
pub count_moved : (held now : ℕ → Option Mode) (e : ℕ) → ((f : ℕ) → f ≢ e → now f ≡ held f) → (m : Mode) (k j : ℕ) → IsCount held m k
    → j + own_part (held e) m ≡ k + own_part (now e) m → IsCount now m j
count_moved held now e others m k j (es, once, are, long) sum = go (has_mode (now e) m) refl
  where
    left : length (but e es) + own_part (held e) m ≡ length es
    left = left_but held m e es once are

    gone : member e (but e es) ≡ false
    gone = member_but e e es ∙ ap (λ (b : Bool). not b && member e es) (eq-eqb e e refl)

    other : (f : ℕ) → f ≢ e → member f (but e es) ≡ has_mode (now f) m
    other f o = other_in held m e f es (are f) o ∙ ap (λ (z : Option Mode). has_mode z m) (sym (others f o))

    go : (b : Bool) → has_mode (now e) m ≡ b → IsCount now m j
    go true n = (
      e ∷ but e es,
      (gone, no_repeat_but e es once),
      (λ f. from_test (eqb f e || member f (but e es)) (now f) m (grind (arith, nat_tests, other f, n))),
      (let own : own_part (now e) m ≡ 1 = ap (λ (b : Bool). one_if b) n in omega (arith, left, long, own, sum)),
    )
    go false n = (
      but e es,
      no_repeat_but e es once,
      (λ f. from_test (member f (but e es)) (now f) m (grind (arith, nat_tests, other f, gone, n))),
      (let own : own_part (now e) m ≡ 0 = ap (λ (b : Bool). one_if b) n in omega (arith, left, long, own, sum)),
    )

-- ---- the counts of a node's holders

pub counted_same : (counts : Counts) (h g : Modes) → ((f : ℕ) → holder_mode g f ≡ holder_mode h f) → AreCounted counts h
    → AreCounted counts g
counted_same counts h g same are = record {
  few = λ f some. are.few f (ap (λ (o : Option Mode). is_some o) (sym (same f)) ∙ some);
  each = λ m. count_same (holder_mode h) (holder_mode g) m (count_in counts m) same (are.each m);
}

-- what an examiner holds is counted
pub counted_own : (counts : Counts) (h : Modes) (e : ℕ) (held : Option Mode) → AreCounted counts h → held ≡ holder_mode h e → (m : Mode)
    → own_part held m ≤ count_in counts m
counted_own counts h e held are is m = subst (λ (o : Option Mode). own_part o m ≤ count_in counts m) (sym is) (own_counted (holder_mode h) m
    (count_in counts m) e (are.each m))

-- one more can be counted
pub counted_fits : (counts : Counts) (h : Modes) → AreCounted counts h → (m : Mode) → count_in counts m + 1 < 2 ^ 64
counted_fits counts h are m =
    let few : count_in counts m ≤ 4294967296 = count_few (holder_mode h) m (count_in counts m) 4294967296 are.few (are.each m) in
    omega (arith, few)

-- one examiner holds something else
pub counted_moved : (was now : Counts) (h g : Modes) (e : ℕ) (held next : Option Mode) → e < 2 ^ 32 → AreCounted was h → held
    ≡ holder_mode h e →
    ((m : Mode) → count_in now m + own_part held m ≡ count_in was m + own_part next m) →
    ((f : ℕ) → holder_mode g f ≡ cond (eqb f e) next (holder_mode h f)) → AreCounted now g
counted_moved was now h g e held next small are had sum writes = record {
  few = λ f some. grind (arith, nat_tests, writes f, are.few f);
  each = λ m. count_moved (holder_mode h) (holder_mode g) e other m (count_in was m) (count_in now m) (are.each m)
      (subst (λ (o : Option Mode). count_in now m + own_part (holder_mode h e) m ≡ count_in was m + own_part o m) (sym here)
      (subst (λ (o : Option Mode). count_in now m + own_part o m ≡ count_in was m + own_part next m) had (sum m)));
}
  where
    other : (f : ℕ) → f ≢ e → holder_mode g f ≡ holder_mode h f
    other f o = writes f ∙ cond-false (eqb f e) next (holder_mode h f) (ne_eqb f e o)

    here : holder_mode g e ≡ next
    here = writes e ∙ cond-true (eqb e e) next (holder_mode h e) (eq-eqb e e refl)

-- an examiner with room alone is let go
pub dropped_same : (h g : Modes) (e : ℕ) → holder_mode h e ≡ None → ((f : ℕ) → holder_mode g f ≡ cond (eqb f e) None (holder_mode h f)) →
    (f : ℕ) → holder_mode g f ≡ holder_mode h f
dropped_same h g e none writes f = grind (arith, nat_tests, writes f)

-- where the counts are clear, nobody else is in the way
pub clear_way : (counts : Counts) (h : Modes) (e : ℕ) (own : Option Mode) (wanted : Mode) → AreCounted counts h → own ≡ holder_mode h e
    → is_clear counts own wanted ≡ true → (f : ℕ) → f ≢ e → clashes wanted (holder_mode h f) ≡ false
clear_way counts h e own wanted are had clear f other = go (holder_mode h f) refl
  where
    go : (o : Option Mode) → holder_mode h f ≡ o → clashes wanted o ≡ false
    go None is = refl
    go (Some a) is = grind (
      arith,
      nat_tests,
      at_each (leaves counts own wanted) clear a,
      none_other (holder_mode h) a (count_in counts a) e f (are.each a),
      same_self a,
      had,
      is,
      other,
    )
