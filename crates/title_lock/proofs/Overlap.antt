-- An entry is granted by modes exactly where no other examiner's entry overlaps it.
use Rattle.std.proofs.Common.{◌≡◌, ◌≢◌, ℕ, Bool, true, false, cond, ◌&&◌, ◌||◌, ◌↔◌, List, [], ◌∷◌, Option, Some, None, is_some, eqb, refl}
use Rattle.std.{proofs.{Common.{sym, ap, ◌∙◌, inl, inr, arith}, lemmas.List.Elements.{All-head, All-tail}}, specs.List.{list_any}}
use Rattle.std.proofs.lemmas.Bool.{and_parts, and_from, or_parts, or_from, or_left, or_right, or_cases, false_from_ne_true, eqb-true}
use mathlib.Core.Bool.{and-false, or_comm}
use Rattle.title_land.specs.{declared.{node.Node.{Node}, tract.Land.{Land}}, Nodes.{same_node, is_above, are_related}}
use Rattle.title_land.specs.{Lands.{cover_of, meets, IsLand}, Laws.SameNode.{same_node-self, same_node-to}}
use Rattle.title_lock.specs.{declared.{modes.Mode.{Mode, TheVariants.{Is, S}}, guards.Entry.{Entry}}, Modes.{bound, allows}}
use Rattle.title_lock.{specs.{Overlaps.{is_post, against}, Asking.{ModesDecideOverlap}}, proofs.ModeLaws.{bound_allows, allows_turn}}
use Rattle.title_lock.specs.Asking.{own_mode, above_mode, asked_for, asked, mode_at, GrantedByModes, AllGranted, AreSized}
use Rattle.title_lock.proofs.NodeLaws.{same_turned}

-- two lists of nodes have two that are one or lie one above the other
abbrev pub related_any : List Node → List Node → Bool
related_any t u = list_any (λ c. list_any (are_related c) u) t

-- two tracts share a cell exactly where two nodes of their covers do
abbrev pub MeetByCovers : ℕ → Type 0
MeetByCovers depth = (a b : Land) → IsLand depth a → IsLand depth b → meets a b ≡ related_any (cover_of depth a) (cover_of depth b)

-- ---- two nodes

-- two maps from nodes to modes stand beside each other
abbrev pub Allow : (Node → Option Mode) → (Node → Option Mode) → Type 0
Allow a b = (n : Node) → allows (a n) (b n) ≡ true

reads_fit : (s a s' a' : Bool) → allows (cond s (Some S) (cond a (Some Is) None)) (cond s' (Some S) (cond a' (Some Is) None)) ≡ true
reads_fit s a s' a' = grind arith

apart_fit : (p q s a s' a' : Bool) → (s ≡ true → (s' || a') ≡ false) → (s' ≡ true → (s || a) ≡ false) →
    allows (cond s (Some (own_mode p)) (cond a (Some (above_mode p)) None))
    (cond s' (Some (own_mode q)) (cond a' (Some (above_mode q)) None)) ≡ true
apart_fit p q s a s' a' h k = grind arith

nodes_apart : (p q : Bool) (c d : Node) → are_related c d ≡ false → Allow (asked_for p c) (asked_for q d)
nodes_apart p q c d h n = apart_fit p q (same_node n c) (is_above n c) (same_node n d) (is_above n d)
    (λ t. grind (arith, same_node-to n c t)) (λ t. grind (arith, same_node-to n d t, same_turned c d))

nodes_fit : (p q : Bool) (c d : Node) → ((p || q) && are_related c d) ≡ false → Allow (asked_for p c) (asked_for q d)
nodes_fit true q c d h = nodes_apart true q c d h
nodes_fit false true c d h = nodes_apart false true c d h
nodes_fit false false c d h = λ n. reads_fit (same_node n c) (is_above n c) (same_node n d) (is_above n d)

own_refuses : (p q s a : Bool) → (p || q) ≡ true → (s || a) ≡ true →
    allows (Some (own_mode p)) (cond s (Some (own_mode q)) (cond a (Some (above_mode q)) None)) ≡ false
own_refuses p q s a h k = grind arith

-- where c is d or lies above it, the two are at odds at c
at_odds : (p q : Bool) (c d : Node) → (p || q) ≡ true → (same_node c d || is_above c d) ≡ true → Allow (asked_for p c) (asked_for q d) → ⊥
at_odds p q c d h k fit = grind (arith, own_refuses p q (same_node c d) (is_above c d) h k, same_node-self c, fit c)

allow_turn : (a b : Node → Option Mode) → Allow a b → Allow b a
allow_turn a b h n = allows_turn (b n) (a n) ∙ h n

nodes_clear : (p q : Bool) (c d : Node) → Allow (asked_for p c) (asked_for q d) → ((p || q) && are_related c d) ≡ false
nodes_clear p q c d fit = false_from_ne_true ((p || q) && are_related c d) (λ t. let k = and_parts (p || q) (are_related c d) t in
    elim (or_cases (same_node c d) (is_above c d || is_above d c) k.1) [
      | inl same ↦ at_odds p q c d k.0 (or_left (same_node c d) (is_above c d) same) fit
      | inr apart ↦ elim (or_cases (is_above c d) (is_above d c) apart) [
        | inl up ↦ at_odds p q c d k.0 (or_right (same_node c d) (is_above c d) up) fit
        | inr down ↦ at_odds q p d c (or_comm q p ∙ k.0) (or_right (same_node d c) (is_above d c) down)
            (allow_turn (asked_for p c) (asked_for q d) fit)
      ]
    ])

-- ---- two tracts

allows_none : (a : Option Mode) → allows a None ≡ true
allows_none None = refl
allows_none (Some a) = refl

pub allow_bound : (a b c : Node → Option Mode) → Allow a c → Allow b c → Allow (λ n. bound (a n) (b n)) c
allow_bound a b c h k n = bound_allows (a n) (b n) (c n) ∙ and_from (allows (a n) (c n)) (allows (b n) (c n)) (h n) (k n)

pub allow_parts : (a b c : Node → Option Mode) → Allow (λ n. bound (a n) (b n)) c → Allow a c × Allow b c
allow_parts a b c h = (
  (λ n. (and_parts (allows (a n) (c n)) (allows (b n) (c n)) (sym (bound_allows (a n) (b n) (c n)) ∙ h n)).0),
  (λ n. (and_parts (allows (a n) (c n)) (allows (b n) (c n)) (sym (bound_allows (a n) (b n) (c n)) ∙ h n)).1),
)

-- and on the other side
allow_with : (a b c : Node → Option Mode) → Allow a b → Allow a c → Allow a (λ n. bound (b n) (c n))
allow_with a b c h k = allow_turn (λ n. bound (b n) (c n)) a (allow_bound b c a (allow_turn a b h) (allow_turn a c k))

pub allow_of : (a b c : Node → Option Mode) → Allow a (λ n. bound (b n) (c n)) → Allow a b × Allow a c
allow_of a b c h =
    let parts = allow_parts b c a (allow_turn a (λ n. bound (b n) (c n)) h) in (allow_turn b a parts.0, allow_turn c a parts.1)

turned : {X : Type 0} (a b : Node → Option Mode) → (X ↔ Allow a b) → X ↔ Allow b a
turned a b h = ((λ x. allow_turn a b (h.0 x)), (λ k. h.1 (allow_turn b a k)))

-- where a node stands beside what is held exactly if it fails a test, nodes do if each fails it
asked_stands : (b p : Bool) (test : Node → Bool) (held : Node → Option Mode)
    → ((c : Node) → ((b && test c) ≡ false) ↔ Allow (asked_for p c) held) → (t : List Node)
    → ((b && list_any test t) ≡ false) ↔ Allow (asked p t) held
asked_stands b p test held each [] = ((λ h n. refl), (λ h. and-false b))
asked_stands b p test held each (c ∷ t) =
    let rest = asked_stands b p test held each t in (
      (λ h. allow_bound (asked_for p c) (asked p t) held ((each c).0 (grind arith)) (rest.0 (grind arith))),
      (λ h. let k = allow_parts (asked_for p c) (asked p t) held h in grind (arith, (each c).1 k.0, rest.1 k.1)),
    )

tracts_stand : (p q : Bool) (t u : List Node) → (((p || q) && related_any t u) ≡ false) ↔ Allow (asked p t) (asked q u)
tracts_stand p q t u = asked_stands (p || q) p (λ c. list_any (are_related c) u) (asked q u)
    (λ c. turned (asked q u) (asked_for p c) (asked_stands (p || q) q (are_related c) (asked_for p c)
    (λ d. turned (asked_for p c) (asked_for q d) (nodes_fit p q c d, nodes_clear p q c d)) u)) t

-- ---- an access and entries

entry_stands : (b p q : Bool) (t u : List Node)
    → ((b && ((p || q) && related_any t u)) ≡ false) ↔ Allow (asked p t) (λ n. cond b (asked q u n) None)
entry_stands true p q t u = tracts_stand p q t u
entry_stands false p q t u = ((λ h n. allows_none (asked p t n)), (λ h. refl))

-- an access stands beside an examiner's modes exactly where none of its entries overlaps it
pub entries_stand : (depth : ℕ) → MeetByCovers depth → (p : Bool) (land : Land) → IsLand depth land → (f : ℕ) (es : List Entry)
    → AreSized depth es → (against land p f es ≡ false) ↔ Allow (asked p (cover_of depth land)) (mode_at depth es f)
entries_stand depth by p land wide f [] sized = ((λ h n. allows_none (asked p (cover_of depth land) n)), (λ h. refl))
entries_stand depth by p land wide f (x ∷ es) sized =
    let same = by land x.tract wide (All-head (λ (z : Entry). IsLand depth z.tract) x es sized) in
    let t = cover_of depth land in
    let q = is_post x.access in
    let mine : Node → Option Mode = λ n. cond (eqb f x.examiner) (asked q (cover_of depth x.tract) n) None in
    let one = entry_stands (eqb f x.examiner) p q t (cover_of depth x.tract) in
    let rest = entries_stand depth by p land wide f es (All-tail (λ (z : Entry). IsLand depth z.tract) x es sized) in (
      (λ h.
          let k = or_parts (eqb f x.examiner && ((p || q) && meets land x.tract)) (against land p f es) h in
          allow_with (asked p t) mine (mode_at depth es f)
          (one.0 (ap (λ (b : Bool). eqb f x.examiner && ((p || q) && b)) (sym same) ∙ k.0)) (rest.0 k.1)),
      (λ h.
          let k = allow_of (asked p t) mine (mode_at depth es f) h in
          or_from (eqb f x.examiner && ((p || q) && meets land x.tract)) (against land p f es)
          (ap (λ (b : Bool). eqb f x.examiner && ((p || q) && b)) same ∙ one.1 k.0) (rest.1 k.1)),
    )

-- ---- the law

-- the modes of any two examiners stand beside each other
abbrev pub Apart : ℕ → List Entry → Type 0
Apart depth es = (e f : ℕ) → f ≢ e → Allow (mode_at depth es e) (mode_at depth es f)

asked_or_none : (a o m : Option Mode) → (is_some a ≡ true → allows (bound o a) m ≡ true) → allows a m ≡ true
asked_or_none a o m h = grind (arith, bound_allows)

-- what is granted stands beside the other examiners' modes
pub granted_fit : (depth : ℕ) (es : List Entry) (e : ℕ) (land : Land) (p : Bool) → GrantedByModes depth es e land p → (f : ℕ) → f ≢ e
    → Allow (asked p (cover_of depth land)) (mode_at depth es f)
granted_fit depth es e land p granted f other n =
    asked_or_none (asked p (cover_of depth land) n) (mode_at depth es e n) (mode_at depth es f n) (λ some. granted n some f other)

pub fit_granted : (depth : ℕ) (es : List Entry) → Apart depth es → (e : ℕ) (land : Land) (p : Bool)
    → ((f : ℕ) → f ≢ e → Allow (asked p (cover_of depth land)) (mode_at depth es f)) → GrantedByModes depth es e land p
fit_granted depth es apart e land p fit n some f other =
    allow_bound (mode_at depth es e) (asked p (cover_of depth land)) (mode_at depth es f) (apart e f other) (fit f other) n

one_more : (b d : Bool) (x m k : Node → Option Mode) → (b ≡ true → d ≡ true → ⊥) → (b ≡ true → Allow x k) → (d ≡ true → Allow x m)
    → Allow m k →
    Allow (λ n. bound (cond b (x n) None) (m n)) (λ n. bound (cond d (x n) None) (k n))
one_more true true x m k never mine theirs old = absurd (never refl refl)
one_more true false x m k never mine theirs old = allow_bound x m k (mine refl) old
one_more false true x m k never mine theirs old = allow_with m x k (allow_turn x m (theirs refl)) old
one_more false false x m k never mine theirs old = old

-- one more entry that stands beside the others' modes
pub apart_more : (depth : ℕ) (es : List Entry) (x : Entry) → Apart depth es
    → ((f : ℕ) → f ≢ x.examiner → Allow (asked (is_post x.access) (cover_of depth x.tract)) (mode_at depth es f)) → Apart depth (x ∷ es)
apart_more depth es x apart fit e f other =
    one_more (eqb e x.examiner) (eqb f x.examiner) (asked (is_post x.access) (cover_of depth x.tract)) (mode_at depth es e)
    (mode_at depth es f)
    (λ a b. other (eqb-true f x.examiner b ∙ sym (eqb-true e x.examiner a)))
    (λ a. fit f (λ h. other (h ∙ sym (eqb-true e x.examiner a))))
    (λ b. fit e (λ h. other (eqb-true f x.examiner b ∙ sym h)))
    (apart e f other)

pub granted_apart : (depth : ℕ) (es : List Entry) → AllGranted depth es → Apart depth es
granted_apart depth [] granted = λ e f other n. refl
granted_apart depth (x ∷ es) granted =
    apart_more depth es x (granted_apart depth es granted.0) (granted_fit depth es x.examiner x.tract (is_post x.access) granted.1)

-- the law, where tracts share a cell exactly where their covers say so
pub modes_decide : (depth : ℕ) → MeetByCovers depth → ModesDecideOverlap depth
modes_decide depth by es sized granted e land p wide = (
  (λ by_modes f other. (entries_stand depth by p land wide f es sized).1 (granted_fit depth es e land p by_modes f other)),
  (λ clear. fit_granted depth es (granted_apart depth es granted) e land p
      (λ f other. (entries_stand depth by p land wide f es sized).0 (clear f other))),
)
