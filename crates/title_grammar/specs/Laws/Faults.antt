-- The index of a fault: how many letters stand before it.
use Rattle.std.proofs.Common.{◌≡◌, ℕ, suc, ◌-◌, ◌≤◌, ◌<◌, ◌==◌, ◌⊎◌, inl, inr, Bool, List, [], ◌∷◌, ◌++◌, length, take, drop, refl, sym, ap}
use Rattle.std.{proofs.Common.{subst, ◌∙◌, arith, append_assoc, length-append, drop-cons}, specs.Bool.{Decides}}
use Rattle.std.proofs.lemmas.{Bool.{eqb-true, eq-eqb, Decides.{nat_tests}}, List.{take-append-drop, take-take, take_all}}
use Rattle.std.proofs.Math.Seq.{take-append_seam, drop-append_seam, take-suc}
use Rattle.title_grammar.specs.{Language.{Language, Begins, FaultAt}, Reading.{Read, Got}, Laws.{Exact.{Exact}, Repeat.{Fault, whole_only}}}

pub nothing_left : (r : List ℕ) → length r ≡ 0 → r ≡ []
nothing_left [] h = refl
nothing_left (c ∷ r) h = absurd (omega arith)

pub fault_shorter : {V : Type 0} (A : Language V) (s r : List ℕ) → Fault A s r → length r ≤ length s
fault_shorter A s r f = omega (arith, ap (λ (z : List ℕ). length z) f.whole, length-append f.text r)

-- the fault after i letters
abbrev pub FaultAfter : {V : Type 0} → Language V → List ℕ → ℕ → Type 0
FaultAfter A s i = (i ≤ length s) × FaultAt A (take i s) (drop i s)

-- where n letters were left
pub fault_after : {V : Type 0} (A : Language V) (s r : List ℕ) (n : ℕ) → Fault A s r → n ≡ length r → FaultAfter A s (length s - n)
fault_after A s r n f e =
    let l : length s - n ≡ length f.text = omega (arith, ap (λ (z : List ℕ). length z) f.whole, length-append f.text r) in
    let p : take (length s - n) s ≡ f.text = ap (λ (k : ℕ). take k s) l ∙ ap (λ (z : List ℕ). take (length f.text) z) f.whole
    ∙ take-append_seam f.text r in
    let q : drop (length s - n) s ≡ r = ap (λ (k : ℕ). drop k s) l ∙ ap (λ (z : List ℕ). drop (length f.text) z) f.whole
    ∙ drop-append_seam f.text r in (
      omega arith,
      subst (λ (z : List ℕ). FaultAt A z (drop (length s - n) s)) (sym p)
          (subst (λ (z : List ℕ). FaultAt A f.text z) (sym q) f.fault),
    )

pub fault_there : {V : Type 0} (A : Language V) (s : List ℕ) (i : ℕ) → FaultAfter A s i → Fault A s (drop i s)
fault_there A s i f = record { text = take i s; whole = sym (take-append-drop i s); fault = f.1 }

fault_begins : {V : Type 0} (A : Language V) (p r : List ℕ) → FaultAt A p r → Begins A p
fault_begins A p [] f = f.0
fault_begins A p (c ∷ r) f = f.0

-- what begins longer texts begins texts
pub shorter_begins : {V : Type 0} (A : Language V) (q x : List ℕ) → Begins A (q ++ x) → Begins A q
shorter_begins A q x b = (x ++ b.0, b.1, rw append_assoc at b.2)

-- past a fault nothing begins a text
fault_ends : {V : Type 0} (A : Language V) (s : List ℕ) (i : ℕ) → i < length s → FaultAfter A s i → Begins A (take (suc i) s) → ⊥
fault_ends {V} A s i l f b =
    let P : List ℕ → Type 0 = λ z. FaultAt A (take i s) z in
    let g = subst P (drop-cons s i 0 l) f.1 in
    let Q : List ℕ → Type 0 = λ z. Begins A z in
    g.1 (subst Q (take-suc s i 0 l) b)

fault_first : {V : Type 0} (A : Language V) (s : List ℕ) (i j : ℕ) → i < j → FaultAfter A s i → FaultAfter A s j → ⊥
fault_first {V} A s i j l f g =
    let b = fault_begins A (take j s) (drop j s) g.1 in
    let Q : List ℕ → Type 0 = λ z. Begins A z in
    let c = subst Q (sym (take-append-drop (suc i) (take j s))) b in
    let d = shorter_begins A (take (suc i) (take j s)) (drop (suc i) (take j s)) c in
    fault_ends A s i (omega (arith, g.0)) f (subst Q (take-take (suc i) j s (omega arith)) d)

compared : (i j : ℕ) → (i ≡ j) ⊎ ((i < j) ⊎ (j < i))
compared i j = grind (arith, nat_tests)

-- a text has one index of a fault at most
pub one_fault_index : {V : Type 0} (A : Language V) (s : List ℕ) (i j : ℕ) → FaultAfter A s i → FaultAfter A s j → i ≡ j
one_fault_index A s i j f g = elim (compared i j) [
  | inl e ↦ e
  | inr (inl l) ↦ absurd (fault_first A s i j l f g)
  | inr (inr l) ↦ absurd (fault_first A s j i l g f)
]

-- a text with a fault begins a longer one exactly where it ends too early
pub begins_where_it_ends : {V : Type 0} (A : Language V) (s : List ℕ) (i : ℕ) → FaultAfter A s i → i ≡ length s → Begins A s
begins_where_it_ends {V} A s i f e =
    let Q : List ℕ → Type 0 = λ z. Begins A z in
    subst Q (take_all i s (omega arith)) (fault_begins A (take i s) (drop i s) f.1)

pub begins_nowhere_else : {V : Type 0} (A : Language V) (s : List ℕ) (i : ℕ) → FaultAfter A s i → i < length s → Begins A s → ⊥
begins_nowhere_else {V} A s i f l b =
    let Q : List ℕ → Type 0 = λ z. Begins A z in
    fault_ends A s i l f (shorter_begins A (take (suc i) s) (drop (suc i) s) (subst Q (sym (take-append-drop (suc i) s)) b))

below_or_end : (i n : ℕ) → i ≤ n → (i < n) ⊎ (i ≡ n)
below_or_end i n l = grind (arith, nat_tests)

pub begins_decided : {V : Type 0} (A : Language V) (s : List ℕ) (i : ℕ) → FaultAfter A s i → Decides (i == length s) (Begins A s)
begins_decided A s i f = (
  (λ h. begins_where_it_ends A s i f (eqb-true i (length s) h)),
  (λ b. elim (below_or_end i (length s) f.0) [
    | inl l ↦ absurd (begins_nowhere_else A s i f l b)
    | inr e ↦ eq-eqb i (length s) e
  ]),
)

one_read : {V : Type 0} (u v : V) (m : Read V) → m ≡ Got u [] → m ≡ Got v [] → u ≡ v
one_read u v m h k = let e = sym h ∙ k in cc

-- a text has one value at most
pub one_value : {V : Type 0} {a : List ℕ → Read V} {A : Language V} {first more : List ℕ} {empty : Bool} → Exact a A first more empty →
    (s : List ℕ) (u v : V) → A u s → A v s → u ≡ v
one_value {V} {a} {A} {first} {more} {empty} x s u v h k =
    one_read u v (a s) (whole_only a A first more empty x s u h) (whole_only a A first more empty x s v k)
