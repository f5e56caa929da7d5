-- Fixed texts, repetition, and whole texts.
use Rattle.std.proofs.Common.{◌≡◌, ℕ, zero, suc, ◌-◌, ◌≤◌, ◌<◌, Bool, true, false, ◌==◌, List, [], ◌∷◌, ◌++◌, length, refl, sym, ap, subst}
use Rattle.std.proofs.{Common.{◌∙◌, inl, inr, arith, append_assoc, length-append}, lemmas.{List.{append-nil}, Bool.{eqb-true}}}
use Rattle.title_grammar.specs.{Language.{Language, Gives, Many, Begins, NoText, FaultAt}, Laws.Sets.{starts-split}}
use Rattle.title_grammar.specs.Reading.{Read, Got, Stuck, and_then, starts, gives_at, many_from, many_at}
use Rattle.title_grammar.specs.Laws.Heads.{SameHead, SameHead-refl, SameHead-front, SameHead-starts, disjoint}
use Rattle.title_grammar.specs.Laws.Exact.{HeadsIn, GotBy, StuckBy, Exact, both_got, same_end, same_choice, starts_of}
use Rattle.title_grammar.specs.Laws.Exact.{either_stuck, got_not_stuck, follow_then, tells, same_next}

-- ---- any number of times

record GotMany {V : Type 0} (first : List ℕ) (a : List ℕ → Read V) (A : Language V) (s : List ℕ) (vs : List V) (r : List ℕ) : Type 0 where
  text : List ℕ
  whole : s ≡ text ++ r
  spells : Many A vs text
  again : (w : List ℕ) → SameHead r w → (n : ℕ) → length (text ++ w) ≤ n → many_from first a n (text ++ w) ≡ Got vs w

record StuckMany {V : Type 0} (first : List ℕ) (a : List ℕ → Read V) (A : Language V) (s r : List ℕ) : Type 0 where
  text : List ℕ
  whole : s ≡ text ++ r
  begins : Begins (Many A) text
  again : (w : List ℕ) → SameHead r w → (n : ℕ) → length (text ++ w) ≤ n → many_from first a n (text ++ w) ≡ Stuck w

many_stop : {V : Type 0} (first : List ℕ) (a : List ℕ → Read V) (n : ℕ) (s : List ℕ) → starts first s ≡ false
    → many_from first a n s ≡ Got [] s
many_stop first a zero s h = refl
many_stop first a (suc n) s h = rw h refl

many_more : {V : Type 0} (first : List ℕ) (a : List ℕ → Read V) (n : ℕ) (s : List ℕ) → starts first s ≡ true →
    many_from first a (suc n) s ≡ and_then (a s) (λ v r. and_then (many_from first a n r) (λ vs t. Got (v ∷ vs) t))
many_more first a n s h = rw h refl

started : (first s : List ℕ) → starts first s ≡ true → 0 < length s
started first [] h = absurd cc
started first (c ∷ s) h = omega arith

many_step : {V : Type 0} (first : List ℕ) (a : List ℕ → Read V) (n : ℕ) (s : List ℕ) (v : V) (vs : List V) (r t : List ℕ) →
    starts first s ≡ true → a s ≡ Got v r → many_from first a n r ≡ Got vs t → many_from first a (suc n) s ≡ Got (v ∷ vs) t
many_step first a n s v vs r t h k l = many_more first a n s h ∙ rw (k, l) refl

many_step_stuck : {V : Type 0} (first : List ℕ) (a : List ℕ → Read V) (n : ℕ) (s : List ℕ) (v : V) (r t : List ℕ) →
    starts first s ≡ true → a s ≡ Got v r → many_from first a n r ≡ Stuck t → many_from first a (suc n) s ≡ Stuck t
many_step_stuck first a n s v r t h k l = many_more first a n s h ∙ rw (k, l) refl

stopped : {V : Type 0} (first : List ℕ) (a : List ℕ → Read V) (A : Language V) (s : List ℕ) → starts first s ≡ false
    → GotMany first a A s [] s
stopped first a A s h = record {
  text = [];
  whole = refl;
  spells = refl;
  again = λ w same n l. many_stop first a n w (sym (SameHead-starts first s w same) ∙ h);
}

nonempty : (first p : List ℕ) → HeadsIn false first p → 0 < length p
nonempty first [] h = absurd cc
nonempty first (c ∷ p) h = omega arith

-- one text, and then the rest, at any count that is long enough
again_more : {V : Type 0} (first : List ℕ) (a : List ℕ → Read V) (v : V) (vs : List V) (p q w : List ℕ) →
    HeadsIn false first p → a (p ++ (q ++ w)) ≡ Got v (q ++ w) →
    ((n : ℕ) → length (q ++ w) ≤ n → many_from first a n (q ++ w) ≡ Got vs w) →
    (n : ℕ) → length ((p ++ q) ++ w) ≤ n → many_from first a n ((p ++ q) ++ w) ≡ Got (v ∷ vs) w
again_more first a v vs p q w h k l zero m =
    let e = nonempty first p h in
    absurd (omega (arith, m, e, length-append (p ++ q) w, length-append p q))
again_more first a v vs p q w h k l (suc n) m =
    let e = nonempty first p h in
    rw append_assoc (many_step first a n (p ++ (q ++ w)) v vs (q ++ w) w (starts_of first p (q ++ w) h) k
    (l n (omega (arith, m, e, length-append (p ++ q) w, length-append p q, length-append q w))))

again_stuck : {V : Type 0} (first : List ℕ) (a : List ℕ → Read V) (v : V) (p q w : List ℕ) →
    HeadsIn false first p → a (p ++ (q ++ w)) ≡ Got v (q ++ w) →
    ((n : ℕ) → length (q ++ w) ≤ n → many_from first a n (q ++ w) ≡ Stuck w) →
    (n : ℕ) → length ((p ++ q) ++ w) ≤ n → many_from first a n ((p ++ q) ++ w) ≡ Stuck w
again_stuck first a v p q w h k l zero m =
    let e = nonempty first p h in
    absurd (omega (arith, m, e, length-append (p ++ q) w, length-append p q))
again_stuck first a v p q w h k l (suc n) m =
    let e = nonempty first p h in
    rw append_assoc (many_step_stuck first a n (p ++ (q ++ w)) v (q ++ w) w (starts_of first p (q ++ w) h) k
    (l n (omega (arith, m, e, length-append (p ++ q) w, length-append p q, length-append q w))))

more_got : {V : Type 0} (first : List ℕ) (a : List ℕ → Read V) (A : Language V) (v : V) (vs : List V) (s t r : List ℕ) →
    ((p : List ℕ) → A v p → HeadsIn false first p) → GotBy a A s v t → GotMany first a A t vs r → GotMany first a A s (v ∷ vs) r
more_got first a A v vs s t r heads g k = record {
  text = g.text ++ k.text;
  whole = g.whole ∙ ap (λ (z : List ℕ). g.text ++ z) k.whole ∙ sym (append_assoc g.text k.text r);
  spells = (g.text, k.text, refl, g.spells, k.spells);
  again = λ w same n l.
      let same_t : SameHead t (k.text ++ w) = rw k.whole (SameHead-front k.text r w same) in
      again_more first a v vs g.text k.text w (heads g.text g.spells) (g.again (k.text ++ w) same_t) (k.again w same) n l;
}

more_stuck : {V : Type 0} (first : List ℕ) (a : List ℕ → Read V) (A : Language V) (v : V) (s t r : List ℕ) →
    ((p : List ℕ) → A v p → HeadsIn false first p) → GotBy a A s v t → StuckMany first a A t r → StuckMany first a A s r
more_stuck first a A v s t r heads g k = record {
  text = g.text ++ k.text;
  whole = g.whole ∙ ap (λ (z : List ℕ). g.text ++ z) k.whole ∙ sym (append_assoc g.text k.text r);
  begins = (k.begins.0, v ∷ k.begins.1, (g.text, k.text ++ k.begins.0, append_assoc g.text k.text k.begins.0, g.spells, k.begins.2));
  again = λ w same n l.
      let same_t : SameHead t (k.text ++ w) = rw k.whole (SameHead-front k.text r w same) in
      again_stuck first a v g.text k.text w (heads g.text g.spells) (g.again (k.text ++ w) same_t) (k.again w same) n l;
}

now_again : {V : Type 0} (first : List ℕ) (a : List ℕ → Read V) (s w : List ℕ) → starts first s ≡ true → a s ≡ Stuck w → (n : ℕ)
    → length s ≤ n → many_from first a n s ≡ Stuck w
now_again first a s w h k zero l = absurd (omega (arith, l, started first s h))
now_again first a s w h k (suc n) l = many_more first a n s h ∙ rw k refl

now_stuck : {V : Type 0} (first : List ℕ) (a : List ℕ → Read V) (A : Language V) (s r : List ℕ) → starts first s ≡ true → StuckBy a A s r
    → StuckMany first a A s r
now_stuck first a A s r h g = record {
  text = g.text;
  whole = g.whole;
  begins = (g.begins.0, g.begins.1 ∷ [], (g.text ++ g.begins.0, [], sym (append-nil (g.text ++ g.begins.0)), g.begins.2, refl));
  again = λ w same n l. now_again first a (g.text ++ w) w (same_choice first g.text r w true same (rw g.whole at h)) (g.again w same) n l;
}

many_got : {V : Type 0} (a : List ℕ → Read V) (A : Language V) (first more : List ℕ) → Exact a A first more false →
    (n : ℕ) (s : List ℕ) (vs : List V) (r : List ℕ) → length s ≤ n → many_from first a n s ≡ Got vs r → GotMany first a A s vs r
many_got a A first more x zero [] vs r l h =
    let values : [] ≡ vs = cc in
    let rest : [] ≡ r = cc in
    rw (← values, ← rest) (stopped first a A [] refl)
many_got a A first more x zero (c ∷ s) vs r l h = absurd (omega arith)
many_got {V} a A first more x (suc n) s vs r l h = elim (tells (starts first s)) [
  | inl e ↦
      let i = both_got (a s) (λ v t. and_then (many_from first a n t) (λ us t2. Got (v ∷ us) t2)) vs r (sym (many_more first a n s e) ∙ h)
      in
      let j = both_got (many_from first a n i.rest) (λ us t2. Got (i.value ∷ us) t2) vs r i.two in
      let g = x.got s i.value i.rest i.one in
      let shorter : length i.rest ≤ n = omega (
        arith,
        l,
        nonempty first g.text (x.heads i.value g.text g.spells),
        length-append g.text i.rest,
        ap (λ (z : List ℕ). length z) g.whole,
      ) in
      let k = many_got a A first more x n i.rest j.value j.rest shorter j.one in
      let rest : j.rest ≡ r = cc in
      let values : i.value ∷ j.value ≡ vs = cc in
      subst (λ z. GotMany first a A s z r) values
      (subst (λ (z : List ℕ). GotMany first a A s (i.value ∷ j.value) z) rest
      (more_got first a A i.value j.value s i.rest j.rest (λ p. x.heads i.value p) g k))
  | inr e ↦
      let k = sym (many_stop first a (suc n) s e) ∙ h in
      let values : [] ≡ vs = cc in
      let rest : s ≡ r = cc in
      subst (λ z. GotMany first a A s z r) values (subst (λ (z : List ℕ). GotMany first a A s [] z) rest (stopped first a A s e))
]

many_stuck : {V : Type 0} (a : List ℕ → Read V) (A : Language V) (first more : List ℕ) → Exact a A first more false →
    (n : ℕ) (s r : List ℕ) → length s ≤ n → many_from first a n s ≡ Stuck r → StuckMany first a A s r
many_stuck a A first more x zero s r l h = absurd (got_not_stuck h)
many_stuck a A first more x (suc n) s r l h = elim (tells (starts first s)) [
  | inl e ↦ elim (either_stuck (a s) (λ v t. and_then (many_from first a n t) (λ us t2. Got (v ∷ us) t2)) r
      (sym (many_more first a n s e) ∙ h)) [
        | inl k ↦ now_stuck first a A s r e (x.stuck s r k)
        | inr i ↦ elim (either_stuck (many_from first a n i.rest) (λ us t2. Got (i.value ∷ us) t2) r i.two) [
          | inl k ↦
              let g = x.got s i.value i.rest i.one in
              let shorter : length i.rest ≤ n = omega (
                arith,
                l,
                nonempty first g.text (x.heads i.value g.text g.spells),
                length-append g.text i.rest,
                ap (λ (z : List ℕ). length z) g.whole,
              ) in
              more_stuck first a A i.value s i.rest r (λ p. x.heads i.value p) g (many_stuck a A first more x n i.rest r shorter k)
          | inr j ↦ absurd (got_not_stuck j.two)
        ]
      ]
  | inr e ↦ absurd (got_not_stuck (sym (many_stop first a (suc n) s e) ∙ h))
]

heads_front : (empty : Bool) (first p q : List ℕ) → HeadsIn false first p → HeadsIn empty first (p ++ q)
heads_front empty first [] q h = absurd cc
heads_front empty first (c ∷ p) q h = h

many_heads : {V : Type 0} (A : Language V) (first : List ℕ) → ((v : V) (p : List ℕ) → A v p → HeadsIn false first p)
    → (vs : List V) (p : List ℕ) → Many A vs p → HeadsIn true first p
many_heads A first heads [] p h = rw h refl
many_heads A first heads (v ∷ vs) p h = rw h.2 (heads_front true first h.0 h.1 (heads v h.0 h.3))

many_complete : {V : Type 0} (a : List ℕ → Read V) (A : Language V) (first more : List ℕ) → Exact a A first more false
    → disjoint first more ≡ true →
    (vs : List V) (p r : List ℕ) → Many A vs p → starts (first ++ more) r ≡ false → (n : ℕ) → length (p ++ r) ≤ n
    → many_from first a n (p ++ r) ≡ Got vs r
many_complete a A first more x d [] p r h k n l = rw h (many_stop first a n r (starts-split first more r k).0)
many_complete a A first more x d (v ∷ vs) p r h k n l =
    let q = h.1 in
    let follow = follow_then true more first first q r d (many_heads A first x.heads vs q h.4) k in
    rw h.2 (again_more first a v vs h.0 q r (x.heads v h.0 h.3) (x.complete v h.0 (q ++ r) h.3 follow)
    (many_complete a A first more x d vs q r h.4 k) n (rw h.2 at l))

len_le : (s : List ℕ) → length s ≤ length s
len_le s = omega arith

pub many_exact : {V : Type 0} (a : List ℕ → Read V) (A : Language V) (first more : List ℕ) → Exact a A first more false
    → disjoint first more ≡ true →
    Exact (many_at first a) (Many A) first (first ++ more) true
many_exact a A first more x d = record {
  heads = many_heads A first x.heads;
  got = λ s vs r h.
      let g = many_got a A first more x (length s) s vs r (len_le s) h in
      record {
        text = g.text;
        whole = g.whole;
        spells = g.spells;
        again = λ w same.
            g.again w same (length (g.text ++ w)) (len_le (g.text ++ w));
      };
  stuck = λ s r h.
      let g = many_stuck a A first more x (length s) s r (len_le s) h in
      record {
        text = g.text;
        whole = g.whole;
        begins = g.begins;
        again = λ w same.
            g.again w same (length (g.text ++ w)) (len_le (g.text ++ w));
      };
  complete = λ vs p r h k. many_complete a A first more x d vs p r h k (length (p ++ r)) (len_le (p ++ r));
  example = ([], [], refl);
}

-- ---- a fixed text

abbrev pub front : List ℕ → List ℕ
front [] = []
front (c ∷ w) = c ∷ []

abbrev pub is_empty : List ℕ → Bool
is_empty [] = true
is_empty (c ∷ w) = false

eqb_same : (c : ℕ) → (c == c) ≡ true
eqb_same c = grind arith

gives_again : {V : Type 0} (v : V) (w r : List ℕ) → gives_at v w (w ++ r) ≡ Got v r
gives_again v [] r = refl
gives_again v (c ∷ w) r = rw (eqb_same c) (gives_again v w r)

record Missed {V : Type 0} (v : V) (w s r : List ℕ) : Type 0 where
  text : List ℕ
  rest : List ℕ
  whole : s ≡ text ++ r
  goes : w ≡ text ++ rest
  again : (t : List ℕ) → SameHead r t → gives_at v w (text ++ t) ≡ Stuck t

gives_next : {V : Type 0} (v : V) (c d : ℕ) (w s : List ℕ) → (d == c) ≡ true → gives_at v (c ∷ w) (d ∷ s) ≡ gives_at v w s
gives_next v c d w s h = rw h refl

gives_other : {V : Type 0} (v : V) (c d : ℕ) (w s : List ℕ) → (d == c) ≡ false → gives_at v (c ∷ w) (d ∷ s) ≡ Stuck (d ∷ s)
gives_other v c d w s h = rw h refl

gives_is : {V : Type 0} (v : V) (w s : List ℕ) (u : V) (r : List ℕ) → gives_at v w s ≡ Got u r → (u ≡ v) × (s ≡ w ++ r)
gives_is v [] s u r h = (cc, cc)
gives_is v (c ∷ w) [] u r h = absurd cc
gives_is v (c ∷ w) (d ∷ s) u r h = elim (tells (d == c)) [
  | inl e ↦
      let k = gives_is v w s u r (sym (gives_next v c d w s e) ∙ h) in
      (k.0, rw (eqb-true d c e, k.1) refl)
  | inr e ↦ let k = sym (gives_other v c d w s e) ∙ h in absurd cc
]

gives_missed : {V : Type 0} (v : V) (w s r : List ℕ) → gives_at v w s ≡ Stuck r → Missed v w s r
gives_missed v [] s r h = absurd (got_not_stuck h)
gives_missed v (c ∷ w) [] r h =
    let e : [] ≡ r = cc in
    record { text = []; rest = c ∷ w; whole = e; goes = refl; again = λ t same. rw (same_end t (rw e same)) refl }
gives_missed v (c ∷ w) (d ∷ s) r h = elim (tells (d == c)) [
  | inl e ↦
      let k = gives_missed v w s r (sym (gives_next v c d w s e) ∙ h) in
      record {
        text = d ∷ k.text;
        rest = k.rest;
        whole = ap (λ (z : List ℕ). d ∷ z) k.whole;
        goes = ap (λ (z : List ℕ). c ∷ z) k.goes ∙ ap (λ (x : ℕ). x ∷ (k.text ++ k.rest)) (sym (eqb-true d c e));
        again = λ t same. gives_next v c d w (k.text ++ t) e ∙ k.again t same;
      }
  | inr e ↦
      let k = sym (gives_other v c d w s e) ∙ h in
      let rest : d ∷ s ≡ r = cc in
      record {
        text = [];
        rest = c ∷ w;
        whole = rest;
        goes = refl;
        again = λ t same.
            let z = same_next d s t (rw rest same) in
            rw z.1 (gives_other v c d w z.0 e);
      }
]

gives_heads : {V : Type 0} (v : V) (w : List ℕ) (u : V) (p : List ℕ) → Gives v w u p → HeadsIn (is_empty w) (front w) p
gives_heads v [] u p h = rw h.1 refl
gives_heads v (c ∷ w) u p h = rw h.1 (rw (eqb_same c) refl)

pub gives_exact : {V : Type 0} (v : V) (w : List ℕ) → Exact (gives_at v w) (Gives v w) (front w) [] (is_empty w)
gives_exact v w = record {
  heads = gives_heads v w;
  got = λ s u r h.
      let k = gives_is v w s u r h in
      record { text = w; whole = k.1; spells = (k.0, refl); again = λ t same. gives_again v w t ∙ ap (λ z. Got z t) (sym k.0) };
  stuck = λ s r h.
      let k = gives_missed v w s r h in
      record { text = k.text; whole = k.whole; begins = (k.rest, v, (refl, sym k.goes)); again = k.again };
  complete = λ u p r h k. rw h.1 (gives_again v w r ∙ ap (λ z. Got z r) (sym h.0));
  example = (w, v, (refl, refl));
}

-- ---- whole texts

read_inv : {V : Type 0} (u v : V) (r t : List ℕ) → Got u r ≡ Got v t → (u ≡ v) × (r ≡ t)
read_inv u v r t e = (cc, cc)

-- What was read to its end is a text of that value.
pub whole_found : {V : Type 0} (a : List ℕ → Read V) (A : Language V) (first more : List ℕ) (empty : Bool) → Exact a A first more empty →
    (s : List ℕ) (v : V) → a s ≡ Got v [] → A v s
whole_found a A first more empty x s v h =
    let g = x.got s v [] h in
    rw (g.whole, append-nil) g.spells

-- A text of a value is read to its end, with that value.
pub whole_only : {V : Type 0} (a : List ℕ → Read V) (A : Language V) (first more : List ℕ) (empty : Bool) → Exact a A first more empty →
    (s : List ℕ) (v : V) → A v s → a s ≡ Got v []
whole_only a A first more empty x s v h = ap a (sym (append-nil s)) ∙ x.complete v s [] h refl

-- Where it stopped, no text goes on.
pub record Fault {V : Type 0} (A : Language V) (s r : List ℕ) : Type 0 where
  pub text : List ℕ
  pub whole : s ≡ text ++ r
  pub fault : FaultAt A text r

pub whole_left : {V : Type 0} (a : List ℕ → Read V) (A : Language V) (first more : List ℕ) (empty : Bool) → Exact a A first more empty →
    (s : List ℕ) (v : V) (c : ℕ) (r : List ℕ) → a s ≡ Got v (c ∷ r) → Fault A s (c ∷ r)
whole_left {V} a A first more empty x s v c r h =
    let g = x.got s v (c ∷ r) h in
    let none : Begins A (g.text ++ c ∷ []) → ⊥ = λ b.
    let one = whole_only a A first more empty x ((g.text ++ c ∷ []) ++ b.0) b.1 b.2 in
    let two = g.again (c ∷ b.0) refl in
    let three = sym (rw append_assoc at one) ∙ two in
    absurd cc in
    record { text = g.text; whole = g.whole; fault = (([], v, rw append-nil g.spells), none) }

pub whole_stuck : {V : Type 0} (a : List ℕ → Read V) (A : Language V) (first more : List ℕ) (empty : Bool) → Exact a A first more empty →
    (s r : List ℕ) → a s ≡ Stuck r → Fault A s r
whole_stuck {V} a A first more empty x s [] h =
    let g = x.stuck s [] h in
    let none : NoText A g.text = λ v b.
    let one = whole_only a A first more empty x g.text v b in
    let two = rw append-nil at (g.again [] tt) in
    let three = sym one ∙ two in
    absurd cc in
    record { text = g.text; whole = g.whole; fault = (g.begins, none) }
whole_stuck {V} a A first more empty x s (c ∷ r) h =
    let g = x.stuck s (c ∷ r) h in
    let none : Begins A (g.text ++ c ∷ []) → ⊥ = λ b.
    let one = whole_only a A first more empty x ((g.text ++ c ∷ []) ++ b.0) b.1 b.2 in
    let two = g.again (c ∷ b.0) refl in
    let three = sym (rw append_assoc at one) ∙ two in
    absurd cc in
    record { text = g.text; whole = g.whole; fault = (g.begins, none) }

-- A text with a fault is no text of the grammar.
pub fault_none : {V : Type 0} (A : Language V) (s r : List ℕ) → Fault A s r → NoText A s
fault_none A s [] f v h = f.fault.1 v (rw (f.whole, append-nil) at h)
fault_none A s (c ∷ r) f v h = f.fault.1 (
  r,
  v,
  (let e : s ≡ (f.text ++ c ∷ []) ++ r = f.whole ∙ sym (append_assoc f.text (c ∷ []) r) in
      rw e at h),
)

-- ---- a loop, one text at a time

-- any count that is long enough gives the same
many_enough : {V : Type 0} (a : List ℕ → Read V) (A : Language V) (first more : List ℕ) → Exact a A first more false →
    (n : ℕ) (s : List ℕ) → length s ≤ n → (m : Read (List V)) → many_from first a n s ≡ m → many_at first a s ≡ m
many_enough a A first more x n s l (Got vs r) h =
    let g = many_got a A first more x n s vs r l h in
    let k = g.again r (SameHead-refl r) (length (g.text ++ r)) (len_le (g.text ++ r)) in
    let P : List ℕ → Type 0 = λ z. many_from first a (length z) z ≡ Got vs r in
    subst P (sym g.whole) k
many_enough a A first more x n s l (Stuck r) h =
    let g = many_stuck a A first more x n s r l h in
    let k = g.again r (SameHead-refl r) (length (g.text ++ r)) (len_le (g.text ++ r)) in
    let P : List ℕ → Type 0 = λ z. many_from first a (length z) z ≡ Stuck r in
    subst P (sym g.whole) k

-- what was read is at least one letter
pub takes_some : {V : Type 0} {a : List ℕ → Read V} {A : Language V} {first more : List ℕ} → Exact a A first more false →
    (s : List ℕ) (v : V) (r : List ℕ) → a s ≡ Got v r → length r < length s
takes_some {V} {a} {A} {first} {more} x s v r h =
    let g = x.got s v r h in
    omega (arith, nonempty first g.text (x.heads v g.text g.spells), length-append g.text r, ap (λ (z : List ℕ). length z) g.whole)

then_again : {U W : Type 0} (m : Read (List U)) (v : U) (k : List U → List ℕ → Read W) →
    and_then (and_then m (λ vs t. Got (v ∷ vs) t)) k ≡ and_then m (λ vs t. k (v ∷ vs) t)
then_again (Got vs t) v k = refl
then_again (Stuck t) v k = refl

many_unrolled : {V : Type 0} (first : List ℕ) (a : List ℕ → Read V) (n : ℕ) (s : List ℕ) (v : V) (r : List ℕ) → length s ≡ suc n
    → starts first s ≡ true → a s ≡ Got v r →
    many_at first a s ≡ and_then (many_from first a n r) (λ vs t. Got (v ∷ vs) t)
many_unrolled first a n s v r e h k = rw e (many_more first a n s h ∙ rw k refl)

pub many_next : {V W : Type 0} {a : List ℕ → Read V} {A : Language V} {first more : List ℕ} → Exact a A first more false →
    (s : List ℕ) (v : V) (r : List ℕ) (k : List V → List ℕ → Read W) → starts first s ≡ true → a s ≡ Got v r →
    and_then (many_at first a s) k ≡ and_then (many_at first a r) (λ vs t. k (v ∷ vs) t)
many_next {V} {W} {a} {A} {first} {more} x s v r k h e =
    let l = takes_some x s v r e in
    let n = length s - 1 in
    let len : length s ≡ suc (length s - 1) = omega arith in
    let same = many_enough a A first more x (length s - 1) r (omega arith) (many_from first a (length s - 1) r) refl in
    ap (λ m. and_then m k) (many_unrolled first a (length s - 1) s v r len h e) ∙ then_again (many_from first a (length s - 1) r) v k
    ∙ ap (λ m. and_then m (λ vs t. k (v ∷ vs) t)) (sym same)

pub many_ends : {V W : Type 0} (first : List ℕ) (a : List ℕ → Read V) (s : List ℕ) (k : List V → List ℕ → Read W) → starts first s ≡ false →
    and_then (many_at first a s) k ≡ k [] s
many_ends first a s k h = rw (many_stop first a (length s) s h) refl

many_now : {V : Type 0} (first : List ℕ) (a : List ℕ → Read V) (n : ℕ) (s r : List ℕ) → length s ≡ suc n → starts first s ≡ true
    → a s ≡ Stuck r → many_at first a s ≡ Stuck r
many_now first a n s r e h k = rw e (many_more first a n s h ∙ rw k refl)

pub many_stops : {V W : Type 0} (first : List ℕ) (a : List ℕ → Read V) (s r : List ℕ) (k : List V → List ℕ → Read W) → starts first s ≡ true
    → a s ≡ Stuck r →
    and_then (many_at first a s) k ≡ Stuck r
many_stops first a s r k h e =
    let l = started first s h in
    rw (many_now first a (length s - 1) s r (omega arith) h e) refl
