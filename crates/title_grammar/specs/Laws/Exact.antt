-- Readers that read a language exactly, and what they are made of.
use Rattle.std.proofs.Common.{◌≡◌, ℕ, Bool, true, false, ◌&&◌, List, [], ◌∷◌, ◌++◌, refl, sym, ap, subst, ◌∙◌, inl, inr, ◌⊎◌, append_assoc}
use Rattle.title_grammar.specs.Language.{Language, member, OneOf, Then, Or, Begins}
use Rattle.title_grammar.specs.Reading.{Read, Got, Stuck, and_then, starts, one_of_at, then_at, or_at}
use Rattle.title_grammar.specs.Laws.Heads.{SameHead, SameHead-front, SameHead-starts, disjoint}
use Rattle.title_grammar.specs.Laws.Sets.{member-append-left, member-append-right, starts-split, disjoint-apart}

-- An empty text only where empty says so; any other text begins with a character of first.
abbrev pub HeadsIn : Bool → List ℕ → List ℕ → Type 0
HeadsIn empty first [] = empty ≡ true
HeadsIn empty first (c ∷ p) = member c first ≡ true

-- What a reader took is a text of v, and with other text behind the same next character it takes the same.
pub record GotBy {V : Type 0} (a : List ℕ → Read V) (A : Language V) (s : List ℕ) (v : V) (r : List ℕ) : Type 0 where
  pub text : List ℕ
  pub whole : s ≡ text ++ r
  pub spells : A v text
  pub again : (w : List ℕ) → SameHead r w → a (text ++ w) ≡ Got v w

-- What a reader took before it got stuck begins a text, and with other text behind the same next character it gets stuck there too.
pub record StuckBy {V : Type 0} (a : List ℕ → Read V) (A : Language V) (s r : List ℕ) : Type 0 where
  pub text : List ℕ
  pub whole : s ≡ text ++ r
  pub begins : Begins A text
  pub again : (w : List ℕ) → SameHead r w → a (text ++ w) ≡ Stuck w

-- A reader of a language. first: the characters that its texts begin with, and empty: whether one of them is empty.
-- more: characters that may go on after a text of the language, and so mustn't follow one.
pub record Exact {V : Type 0} (a : List ℕ → Read V) (A : Language V) (first more : List ℕ) (empty : Bool) : Type 0 where
  pub heads : (v : V) (p : List ℕ) → A v p → HeadsIn empty first p
  pub got : (s : List ℕ) (v : V) (r : List ℕ) → a s ≡ Got v r → GotBy a A s v r
  pub stuck : (s r : List ℕ) → a s ≡ Stuck r → StuckBy a A s r
  pub complete : (v : V) (p r : List ℕ) → A v p → starts more r ≡ false → a (p ++ r) ≡ Got v r
  pub example : Begins A []

abbrev pub when : Bool → List ℕ → List ℕ
when true xs = xs
when false xs = []

-- ---- steps that may get stuck

pub record BothGot {U V : Type 0} (m : Read U) (k : U → List ℕ → Read V) (v : V) (r : List ℕ) : Type 0 where
  pub value : U
  pub rest : List ℕ
  pub one : m ≡ Got value rest
  pub two : k value rest ≡ Got v r

got_inv : {V : Type 0} (u v : V) (r t : List ℕ) → Got u r ≡ Got v t → (u ≡ v) × (r ≡ t)
got_inv u v r t e = (cc, cc)

pub both_got : {U V : Type 0} (m : Read U) (k : U → List ℕ → Read V) (v : V) (r : List ℕ) → and_then m k ≡ Got v r → BothGot m k v r
both_got (Got u s) k v r e = record { value = u; rest = s; one = refl; two = e }
both_got (Stuck s) k v r e = absurd cc

pub record ThenStuck {U V : Type 0} (m : Read U) (k : U → List ℕ → Read V) (r : List ℕ) : Type 0 where
  pub value : U
  pub rest : List ℕ
  pub one : m ≡ Got value rest
  pub two : k value rest ≡ Stuck r

abbrev stuck_at : {V : Type 0} → List ℕ → Read V
stuck_at s = Stuck s

stuck_is : {U V : Type 0} (s r : List ℕ) → stuck_at {V = V} s ≡ Stuck r → stuck_at {V = U} s ≡ Stuck r
stuck_is s r e = let k : s ≡ r = cc in ap (λ (t : List ℕ). stuck_at t) k

pub either_stuck : {U V : Type 0} (m : Read U) (k : U → List ℕ → Read V) (r : List ℕ) → and_then m k ≡ Stuck r
    → (m ≡ Stuck r) ⊎ ThenStuck m k r
either_stuck (Got u s) k r e = inr (record { value = u; rest = s; one = refl; two = e })
either_stuck (Stuck s) k r e = inl (stuck_is s r e)

pub got_not_stuck : {V : Type 0} {v : V} {r t : List ℕ} → Got v r ≡ Stuck t → ⊥
got_not_stuck e = cc

-- ---- one after another

and_true : (a b : Bool) → a ≡ true → b ≡ true → (a && b) ≡ true
and_true a b h k = rw h k

heads_then : (ea eb : Bool) (fa fb p q : List ℕ) → HeadsIn ea fa p → HeadsIn eb fb q → HeadsIn (ea && eb) (fa ++ when ea fb) (p ++ q)
heads_then ea eb fa fb [] [] h k = and_true ea eb h k
heads_then ea eb fa fb [] (c ∷ q) h k = rw h (member-append-right c fa fb k)
heads_then ea eb fa fb (c ∷ p) q h k = member-append-left c fa (when ea fb) h

-- what may follow b's text doesn't go on with a's
pub follow_then : (eb : Bool) (ma fb mb q r : List ℕ) → disjoint fb ma ≡ true → HeadsIn eb fb q → starts (mb ++ when eb ma) r ≡ false
    → starts ma (q ++ r) ≡ false
follow_then eb ma fb mb [] r d h k =
    let e : when eb ma ≡ ma = ap (λ b. when b ma) h in
    rw e at (starts-split mb (when eb ma) r k).1
follow_then eb ma fb mb (c ∷ q) r d h k = disjoint-apart fb ma c d h

then_steps : {U V W : Type 0} (f : U → V → W) (a : List ℕ → Read U) (b : List ℕ → Read V) (u : U) (s r : List ℕ) →
    a s ≡ Got u r → then_at f a b s ≡ and_then (b r) (λ v t. Got (f u v) t)
then_steps f a b u s r h = rw h refl

then_got_at : {U V W : Type 0} (f : U → V → W) (a : List ℕ → Read U) (A : Language U) (b : List ℕ → Read V) (B : Language V)
    (u : U) (v : V) (s t r : List ℕ) → GotBy a A s u t → GotBy b B t v r → GotBy (then_at f a b) (Then f A B) s (f u v) r
then_got_at f a A b B u v s t r g k = record {
  text = g.text ++ k.text;
  whole = g.whole ∙ ap (λ (z : List ℕ). g.text ++ z) k.whole ∙ sym (append_assoc g.text k.text r);
  spells = (u, v, g.text, k.text, refl, refl, g.spells, k.spells);
  again = λ w same.
      let same_t : SameHead t (k.text ++ w) = rw k.whole (SameHead-front k.text r w same) in
      rw (
        append_assoc g.text k.text w,
        then_steps f a b u (g.text ++ (k.text ++ w)) (k.text ++ w) (g.again (k.text ++ w) same_t),
        k.again w same,
      ) refl;
}

then_got : {U V W : Type 0} (f : U → V → W) (a : List ℕ → Read U) (A : Language U) (fa ma : List ℕ) (ea : Bool)
    (b : List ℕ → Read V) (B : Language V) (fb mb : List ℕ) (eb : Bool) →
    Exact a A fa ma ea → Exact b B fb mb eb →
    (s : List ℕ) (w : W) (r : List ℕ) → then_at f a b s ≡ Got w r → GotBy (then_at f a b) (Then f A B) s w r
then_got f a A fa ma ea b B fb mb eb x y s w r h =
    let i = both_got (a s) (λ u t. and_then (b t) (λ v t2. Got (f u v) t2)) w r h in
    let j = both_got (b i.rest) (λ v t2. Got (f i.value v) t2) w r i.two in
    let g = x.got s i.value i.rest i.one in
    let k = y.got i.rest j.value j.rest j.one in
    let rest : j.rest ≡ r = cc in
    let value : f i.value j.value ≡ w = cc in
    subst (λ z. GotBy (then_at f a b) (Then f A B) s z r) value
    (subst (λ (z : List ℕ). GotBy (then_at f a b) (Then f A B) s (f i.value j.value) z) rest
    (then_got_at f a A b B i.value j.value s i.rest j.rest g k))

stuck_in_first : {U V W : Type 0} (f : U → V → W) (a : List ℕ → Read U) (A : Language U) (b : List ℕ → Read V) (B : Language V)
    (s r : List ℕ) → Begins B [] → StuckBy a A s r → StuckBy (then_at f a b) (Then f A B) s r
stuck_in_first f a A b B s r e g = record {
  text = g.text;
  whole = g.whole;
  begins = (
    g.begins.0 ++ e.0,
    f g.begins.1 e.1,
    (
      g.begins.1,
      e.1,
      g.text ++ g.begins.0,
      e.0,
      refl,
      sym (append_assoc g.text g.begins.0 e.0),
      g.begins.2,
      e.2,
    ),
  );
  again = λ w same. rw (g.again w same) refl;
}

stuck_in_second : {U V W : Type 0} (f : U → V → W) (a : List ℕ → Read U) (A : Language U) (b : List ℕ → Read V) (B : Language V)
    (u : U) (s t r : List ℕ) → GotBy a A s u t → StuckBy b B t r → StuckBy (then_at f a b) (Then f A B) s r
stuck_in_second f a A b B u s t r g k = record {
  text = g.text ++ k.text;
  whole = g.whole ∙ ap (λ (z : List ℕ). g.text ++ z) k.whole ∙ sym (append_assoc g.text k.text r);
  begins = (
    k.begins.0,
    f u k.begins.1,
    (
      u,
      k.begins.1,
      g.text,
      k.text ++ k.begins.0,
      refl,
      append_assoc g.text k.text k.begins.0,
      g.spells,
      k.begins.2,
    ),
  );
  again = λ w same.
      let same_t : SameHead t (k.text ++ w) = rw k.whole (SameHead-front k.text r w same) in
      rw (
        append_assoc g.text k.text w,
        then_steps f a b u (g.text ++ (k.text ++ w)) (k.text ++ w) (g.again (k.text ++ w) same_t),
        k.again w same,
      ) refl;
}

then_stuck : {U V W : Type 0} (f : U → V → W) (a : List ℕ → Read U) (A : Language U) (fa ma : List ℕ) (ea : Bool)
    (b : List ℕ → Read V) (B : Language V) (fb mb : List ℕ) (eb : Bool) →
    Exact a A fa ma ea → Exact b B fb mb eb →
    (s r : List ℕ) → then_at f a b s ≡ Stuck r → StuckBy (then_at f a b) (Then f A B) s r
then_stuck f a A fa ma ea b B fb mb eb x y s r h =
    elim (either_stuck (a s) (λ u t. and_then (b t) (λ v t2. Got (f u v) t2)) r h) [
      | inl e ↦ stuck_in_first f a A b B s r y.example (x.stuck s r e)
      | inr i ↦ elim (either_stuck (b i.rest) (λ v t2. Got (f i.value v) t2) r i.two) [
        | inl e ↦ stuck_in_second f a A b B i.value s i.rest r (x.got s i.value i.rest i.one) (y.stuck i.rest r e)
        | inr j ↦ absurd (got_not_stuck j.two)
      ]
    ]

then_complete : {U V W : Type 0} (f : U → V → W) (a : List ℕ → Read U) (A : Language U) (fa ma : List ℕ) (ea : Bool)
    (b : List ℕ → Read V) (B : Language V) (fb mb : List ℕ) (eb : Bool) →
    Exact a A fa ma ea → Exact b B fb mb eb → disjoint fb ma ≡ true →
    (w : W) (s r : List ℕ) → Then f A B w s → starts (mb ++ when eb ma) r ≡ false → then_at f a b (s ++ r) ≡ Got w r
then_complete f a A fa ma ea b B fb mb eb x y d w s r h k =
    let follow = follow_then eb ma fb mb h.3 r d (y.heads h.1 h.3 h.7) k in
    let one = x.complete h.0 h.2 (h.3 ++ r) h.6 follow in
    let two = y.complete h.1 h.3 r h.7 (starts-split mb (when eb ma) r k).0 in
    rw (h.5, append_assoc h.2 h.3 r, then_steps f a b h.0 (h.2 ++ (h.3 ++ r)) (h.3 ++ r) one, two, h.4) refl

pub then_exact : {U V W : Type 0} (f : U → V → W) (a : List ℕ → Read U) (A : Language U) (fa ma : List ℕ) (ea : Bool)
    (b : List ℕ → Read V) (B : Language V) (fb mb : List ℕ) (eb : Bool) →
    Exact a A fa ma ea → Exact b B fb mb eb → disjoint fb ma ≡ true →
    Exact (then_at f a b) (Then f A B) (fa ++ when ea fb) (mb ++ when eb ma) (ea && eb)
then_exact f a A fa ma ea b B fb mb eb x y d = record {
  heads = λ w s h. rw h.5 (heads_then ea eb fa fb h.2 h.3 (x.heads h.0 h.2 h.6) (y.heads h.1 h.3 h.7));
  got = then_got f a A fa ma ea b B fb mb eb x y;
  stuck = then_stuck f a A fa ma ea b B fb mb eb x y;
  complete = then_complete f a A fa ma ea b B fb mb eb x y d;
  example = (
    x.example.0 ++ y.example.0,
    f x.example.1 y.example.1,
    (x.example.1, y.example.1, x.example.0, y.example.0, refl, refl, x.example.2, y.example.2),
  );
}

-- ---- one or the other

pub starts_of : (first p r : List ℕ) → HeadsIn false first p → starts first (p ++ r) ≡ true
starts_of first [] r h = absurd cc
starts_of first (c ∷ p) r h = h

-- a text of b doesn't look like one of a, nor does the text after it where it is empty
not_starts_of : (eb : Bool) (fa fb mo p r : List ℕ) → disjoint fb fa ≡ true → HeadsIn eb fb p → starts (mo ++ when eb fa) r ≡ false
    → starts fa (p ++ r) ≡ false
not_starts_of eb fa fb mo p r d h k = follow_then eb fa fb mo p r d h k

or_left_at : {V : Type 0} (first : List ℕ) (a b : List ℕ → Read V) (s : List ℕ) → starts first s ≡ true → or_at first a b s ≡ a s
or_left_at first a b s h = rw h refl

or_right_at : {V : Type 0} (first : List ℕ) (a b : List ℕ → Read V) (s : List ℕ) → starts first s ≡ false → or_at first a b s ≡ b s
or_right_at first a b s h = rw h refl

-- the choice stays the same where the next character behind what was read does
pub same_choice : (first p r w : List ℕ) (v : Bool) → SameHead r w → starts first (p ++ r) ≡ v → starts first (p ++ w) ≡ v
same_choice first p r w v same h = sym (SameHead-starts first (p ++ r) (p ++ w) (SameHead-front p r w same)) ∙ h

pub tells : (b : Bool) → (b ≡ true) ⊎ (b ≡ false)
tells true = inl refl
tells false = inr refl

or_got : {V : Type 0} (first : List ℕ) (a b : List ℕ → Read V) (A B : Language V) (s : List ℕ) (v : V) (r : List ℕ) →
    ((starts first s ≡ true) × GotBy a A s v r) ⊎ ((starts first s ≡ false) × GotBy b B s v r) → GotBy (or_at first a b) (Or A B) s v r
or_got first a b A B s v r (inl g) = record {
  text = g.1.text;
  whole = g.1.whole;
  spells = inl g.1.spells;
  again = λ w same. or_left_at first a b (g.1.text ++ w) (same_choice first g.1.text r w true same (rw g.1.whole at g.0))
      ∙ g.1.again w same;
}
or_got first a b A B s v r (inr g) = record {
  text = g.1.text;
  whole = g.1.whole;
  spells = inr g.1.spells;
  again = λ w same. or_right_at first a b (g.1.text ++ w) (same_choice first g.1.text r w false same (rw g.1.whole at g.0))
      ∙ g.1.again w same;
}

or_stuck : {V : Type 0} (first : List ℕ) (a b : List ℕ → Read V) (A B : Language V) (s r : List ℕ) →
    ((starts first s ≡ true) × StuckBy a A s r) ⊎ ((starts first s ≡ false) × StuckBy b B s r) → StuckBy (or_at first a b) (Or A B) s r
or_stuck first a b A B s r (inl g) = record {
  text = g.1.text;
  whole = g.1.whole;
  begins = (g.1.begins.0, g.1.begins.1, inl g.1.begins.2);
  again = λ w same. or_left_at first a b (g.1.text ++ w) (same_choice first g.1.text r w true same (rw g.1.whole at g.0))
      ∙ g.1.again w same;
}
or_stuck first a b A B s r (inr g) = record {
  text = g.1.text;
  whole = g.1.whole;
  begins = (g.1.begins.0, g.1.begins.1, inr g.1.begins.2);
  again = λ w same. or_right_at first a b (g.1.text ++ w) (same_choice first g.1.text r w false same (rw g.1.whole at g.0))
      ∙ g.1.again w same;
}

heads_left : (eb : Bool) (fa fb p : List ℕ) → HeadsIn false fa p → HeadsIn eb (fa ++ fb) p
heads_left eb fa fb [] h = absurd cc
heads_left eb fa fb (c ∷ p) h = member-append-left c fa fb h

heads_right : (eb : Bool) (fa fb p : List ℕ) → HeadsIn eb fb p → HeadsIn eb (fa ++ fb) p
heads_right eb fa fb [] h = h
heads_right eb fa fb (c ∷ p) h = member-append-right c fa fb h

or_complete : {V : Type 0} (a : List ℕ → Read V) (A : Language V) (fa ma : List ℕ)
    (b : List ℕ → Read V) (B : Language V) (fb mb : List ℕ) (eb : Bool) →
    Exact a A fa ma false → Exact b B fb mb eb → disjoint fb fa ≡ true →
    (v : V) (p r : List ℕ) → Or A B v p → starts ((ma ++ mb) ++ when eb fa) r ≡ false → or_at fa a b (p ++ r) ≡ Got v r
or_complete a A fa ma b B fb mb eb x y d v p r (inl h) k =
    let m = starts-split ma mb r (starts-split (ma ++ mb) (when eb fa) r k).0 in
    or_left_at fa a b (p ++ r) (starts_of fa p r (x.heads v p h)) ∙ x.complete v p r h m.0
or_complete a A fa ma b B fb mb eb x y d v p r (inr h) k =
    let m = starts-split ma mb r (starts-split (ma ++ mb) (when eb fa) r k).0 in
    or_right_at fa a b (p ++ r) (not_starts_of eb fa fb (ma ++ mb) p r d (y.heads v p h) k) ∙ y.complete v p r h m.1

or_heads : {V : Type 0} (a : List ℕ → Read V) (A : Language V) (fa ma : List ℕ)
    (b : List ℕ → Read V) (B : Language V) (fb mb : List ℕ) (eb : Bool) →
    Exact a A fa ma false → Exact b B fb mb eb → (v : V) (p : List ℕ) → Or A B v p → HeadsIn eb (fa ++ fb) p
or_heads a A fa ma b B fb mb eb x y v p (inl h) = heads_left eb fa fb p (x.heads v p h)
or_heads a A fa ma b B fb mb eb x y v p (inr h) = heads_right eb fa fb p (y.heads v p h)

pub or_exact : {V : Type 0} (a : List ℕ → Read V) (A : Language V) (fa ma : List ℕ)
    (b : List ℕ → Read V) (B : Language V) (fb mb : List ℕ) (eb : Bool) →
    Exact a A fa ma false → Exact b B fb mb eb → disjoint fb fa ≡ true →
    Exact (or_at fa a b) (Or A B) (fa ++ fb) ((ma ++ mb) ++ when eb fa) eb
or_exact a A fa ma b B fb mb eb x y d = record {
  heads = or_heads a A fa ma b B fb mb eb x y;
  got = λ s v r h. elim (tells (starts fa s)) [
    | inl e ↦ or_got fa a b A B s v r (inl (e, x.got s v r (sym (or_left_at fa a b s e) ∙ h)))
    | inr e ↦ or_got fa a b A B s v r (inr (e, y.got s v r (sym (or_right_at fa a b s e) ∙ h)))
  ];
  stuck = λ s r h. elim (tells (starts fa s)) [
    | inl e ↦ or_stuck fa a b A B s r (inl (e, x.stuck s r (sym (or_left_at fa a b s e) ∙ h)))
    | inr e ↦ or_stuck fa a b A B s r (inr (e, y.stuck s r (sym (or_right_at fa a b s e) ∙ h)))
  ];
  complete = or_complete a A fa ma b B fb mb eb x y d;
  example = (x.example.0, x.example.1, inl x.example.2);
}

-- ---- one character of a set

pub same_next : (c : ℕ) (r w : List ℕ) → SameHead (c ∷ r) w → (t : List ℕ) × (w ≡ c ∷ t)
same_next c r [] h = absurd h
same_next c r (d ∷ t) h = (t, ap (λ x. x ∷ t) (sym h))

pub same_end : (w : List ℕ) → SameHead [] w → w ≡ []
same_end [] h = refl
same_end (d ∷ t) h = absurd h

one_of_in : (set : List ℕ) (c : ℕ) (s : List ℕ) → member c set ≡ true → one_of_at set (c ∷ s) ≡ Got c s
one_of_in set c s h = rw h refl

one_of_out : (set : List ℕ) (c : ℕ) (s : List ℕ) → member c set ≡ false → one_of_at set (c ∷ s) ≡ Stuck (c ∷ s)
one_of_out set c s h = rw h refl

one_of_got : (set s : List ℕ) (v : ℕ) (r : List ℕ) → one_of_at set s ≡ Got v r → GotBy (one_of_at set) (OneOf set) s v r
one_of_got set [] v r h = absurd cc
one_of_got set (c ∷ s) v r h = elim (tells (member c set)) [
  | inl e ↦
      let k = sym (one_of_in set c s e) ∙ h in
      let value : c ≡ v = cc in
      let rest : s ≡ r = cc in
      let m : member v set ≡ true = rw (← value) e in
      record { text = v ∷ []; whole = rw (value, rest) refl; spells = (m, refl); again = λ w same. one_of_in set v w m }
  | inr e ↦ let k = sym (one_of_out set c s e) ∙ h in absurd cc
]

one_of_stuck : (set : List ℕ) (d : ℕ) → member d set ≡ true → (s r : List ℕ) → one_of_at set s ≡ Stuck r
    → StuckBy (one_of_at set) (OneOf set) s r
one_of_stuck set d m [] r h =
    let e : [] ≡ r = cc in
    record { text = []; whole = e; begins = (d ∷ [], d, (m, refl)); again = λ w same. rw (same_end w (rw e same)) refl }
one_of_stuck set d m (c ∷ s) r h = elim (tells (member c set)) [
  | inl e ↦ let k = sym (one_of_in set c s e) ∙ h in absurd cc
  | inr e ↦
      let k = sym (one_of_out set c s e) ∙ h in
      let rest : c ∷ s ≡ r = cc in
      record {
        text = [];
        whole = rest;
        begins = (d ∷ [], d, (m, refl));
        again = λ w same.
            let t = same_next c s w (rw rest same) in
            rw t.1 (one_of_out set c t.0 e);
      }
]

pub one_of_exact : (set : List ℕ) (d : ℕ) → member d set ≡ true → Exact (one_of_at set) (OneOf set) set [] false
one_of_exact set d m = record {
  heads = λ v p h. rw h.1 h.0;
  got = one_of_got set;
  stuck = one_of_stuck set d m;
  complete = λ v p r h k. rw h.1 (one_of_in set v r h.0);
  example = (d ∷ [], d, (m, refl));
}
