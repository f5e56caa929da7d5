-- What is done at the nodes of a walk that climbs: room, modes, and places given back.
use Rattle.std.proofs.Common.{◌≡◌, ℕ, Bool, true, false, cond, not, ◌&&◌, ◌||◌, List, [], ◌∷◌, ◌++◌, Option, Some, None, is_some, eqb}
use Rattle.std.proofs.Common.{refl, sym, ap, subst, ◌∙◌, inl, inr, arith, true≢false}
use Rattle.std.proofs.lemmas.Bool.{eqb-true, eq-eqb, or_left, or_right, or_cases, and_parts, and_from, cases_Bool}
use Rattle.std.proofs.lemmas.List.Folds.{list_any-append}
use Rattle.std.specs.List.{list_any}
use mathlib.Core.Bool.{or-false}
use Rattle.title_land.specs.{declared.node.Node.{Node}, Nodes.{same_node, above, is_above}}
use Rattle.title_land.specs.Laws.SameNode.{same_node-self, same_node-to}
use Rattle.title_lock.specs.{declared.{modes.Mode.{Mode}, walks.Climb.{Climb}}, Modes.{bound, intention, is_enough}, Asking.{above_mode}}
use Rattle.title_lock.specs.Tables.{HeldAt, table_mode, table_room, is_idle, is_asked, IsRooted, IsRoomy, IsGone, IdleLess}
use Rattle.title_lock.specs.Walks.{Asked, mode_for, asks_above, asked_in, asks_in, climb_left}
use Rattle.title_lock.proofs.{ModeLaws.{bound_none, bound_assoc}, WalkLaws.{above_asked, above_asks, asked_append}, Climbing.{to_come}}
use Rattle.title_lock.proofs.Intentions.{self_asked, above_all, over_asked, enough_too, enough_bound, enough_above, held_idle}

-- ---- room

-- above a node where there is room there is room
pub room_closed : (t : HeldAt) (e : ℕ) → ((n : Node) → IsRoomy t e n) → (n k : Node) → is_above k n ≡ true → table_room t e n ≡ true
    → table_room t e k ≡ true
room_closed t e roomy n k over here = roomy n n (self_asked n) here k over

-- room is made at one node
pub room_does : (t u : HeldAt) (e : ℕ) (at : Node) → table_room u e at ≡ true
    → ((n : Node) → same_node n at ≡ false → table_room u e n ≡ table_room t e n)
    → (n : Node) → table_room u e n ≡ (table_room t e n || same_node n at)
room_does t u e at here others n = elim (cases_Bool (same_node n at)) [
  | inl same ↦ subst (λ (z : Node). table_room u e z ≡ true) (sym (same_node-to n at same)) here
      ∙ sym (or_right (table_room t e n) (same_node n at) same)
  | inr other ↦ others n other ∙ sym (or-false (table_room t e n)) ∙ ap (λ (b : Bool). table_room t e n || b) (sym other)
]

-- ---- modes

-- what is asked at a node is enough for what is asked above
own_enough : (p own : Bool) → is_enough (Some (mode_for p own)) (above_mode p) ≡ true
own_enough true true = refl
own_enough true false = refl
own_enough false true = refl
own_enough false false = refl

pub enough_own : (p own : Bool) (a : Option Mode) → is_enough a (mode_for p own) ≡ true → is_enough a (above_mode p) ≡ true
enough_own p own a h = ap (λ (z : Option Mode). is_enough z (above_mode p)) (sym (enough_bound a (mode_for p own) h))
    ∙ enough_too a (Some (mode_for p own)) (above_mode p) (own_enough p own)

above_again : (p : Bool) → intention (above_mode p) ≡ above_mode p
above_again true = refl
above_again false = refl

-- above a node where enough is held for what is asked above there is enough
pub raise_closed : (t : HeldAt) (e : ℕ) (p : Bool) → ((n : Node) → IsRooted t e n) → (n k : Node) → is_above k n ≡ true
    → is_enough (table_mode t e n) (above_mode p) ≡ true → is_enough (table_mode t e k) (above_mode p) ≡ true
raise_closed t e p rooted n k over here = ap (is_enough (table_mode t e k)) (sym (above_again p))
    ∙ enough_above (table_mode t e n) (table_mode t e k) (above_mode p) here (rooted n n (self_asked n) k over)

enough_does : (p own s : Bool) (o : Option Mode)
    → is_enough (bound o (cond s (Some (mode_for p own)) None)) (above_mode p) ≡ (is_enough o (above_mode p) || s)
enough_does p own false o = ap (λ (z : Option Mode). is_enough z (above_mode p)) (bound_none o)
    ∙ sym (or-false (is_enough o (above_mode p)))
enough_does p own true o = enough_too o (Some (mode_for p own)) (above_mode p) (own_enough p own)
    ∙ sym (or_right (is_enough o (above_mode p)) true refl)

-- a mode more at one node
module _ (t u : HeldAt) (e : ℕ) (p own : Bool) (at : Node) (modes : (f : ℕ) (n : Node)
    → table_mode u f n ≡ bound (table_mode t f n) (cond (eqb f e && same_node n at) (Some (mode_for p own)) None)) where
  pub raise_does : (n : Node)
      → is_enough (table_mode u e n) (above_mode p) ≡ (is_enough (table_mode t e n) (above_mode p) || same_node n at)
  raise_does n = ap (λ (z : Option Mode). is_enough z (above_mode p)) (modes e n)
      ∙ ap (λ (b : Bool). is_enough (bound (table_mode t e n) (cond (b && same_node n at) (Some (mode_for p own)) None)) (above_mode p))
      (eq-eqb e e refl)
      ∙ enough_does p own (same_node n at) (table_mode t e n)

  -- what is left, once it is done too, is what was left before
  pub raise_goes : {left : List Asked} (rest : List Asked) → left ≡ (at, own) ∷ rest → (f : ℕ) (n : Node)
      → bound (table_mode u f n) (cond (eqb f e) (asked_in p rest n) None)
      ≡ bound (table_mode t f n) (cond (eqb f e) (asked_in p left n) None)
  raise_goes rest parts f n = grind (arith, modes f n, ap (λ (z : List Asked). asked_in p z n) parts, bound_assoc, bound_none)

-- nothing is left to ask
pub nothing_asked : (o : Option Mode) (b : Bool) → bound o (cond b None None) ≡ o
nothing_asked o true = bound_none o
nothing_asked o false = bound_none o

-- one examiner by two names
by_name : {V : Type 0} (of : ℕ → V) (f e : ℕ) → eqb f e ≡ true → of f ≡ of e
by_name of f e same = ap of (eqb-true f e same)

skip_at : (o r : Option Mode) (b k : Bool) (m : Mode) → (b ≡ true → k ≡ true → is_enough o m ≡ true)
    → bound o (cond b r None) ≡ bound o (cond b (bound (cond k (Some m) None) r) None)
skip_at o r false k m h = refl
skip_at o r true false m h = refl
skip_at o r true true m h = ap (λ (z : Option Mode). bound z r) (sym (enough_bound o m (h refl refl))) ∙ bound_assoc o (Some m) r

idle_at : (i b k r : Bool) → (b ≡ true → k ≡ true → i ≡ false) → (i && not (b && r)) ≡ (i && not (b && (k || r)))
idle_at i false k r h = refl
idle_at i true false r h = refl
idle_at i true true r h = rw (h refl refl) refl

-- what is left out above a node holds enough
module _ (u : HeldAt) (e : ℕ) (p : Bool) (climb : Option Climb) (last : Option Node) (c : Node)
    (higher : climb_left climb ≡ asks_above last (above c))
    (passed : (n : Node) → to_come climb n ≡ true → is_enough (table_mode u e n) (above_mode p) ≡ true)
    {left : List Asked} (rest : List Asked) (parts : left ≡ climb_left climb ++ rest) where
  climb_asks : (n : Node) → asked_in p (climb_left climb) n ≡ cond (to_come climb n) (Some (above_mode p)) None
  climb_asks n = ap (λ (l : List Asked). asked_in p l n) higher ∙ above_asked p last (above c) n
      ∙ ap (λ (b : Bool). cond b (Some (above_mode p)) None)
      (sym (ap (λ (l : List Asked). asks_in l n) higher ∙ above_asks last (above c) n))

  left_asks : (n : Node) → asked_in p left n ≡ bound (cond (to_come climb n) (Some (above_mode p)) None) (asked_in p rest n)
  left_asks n = ap (λ (l : List Asked). asked_in p l n) parts ∙ asked_append p (climb_left climb) rest n
      ∙ ap (λ (o : Option Mode). bound o (asked_in p rest n)) (climb_asks n)

  left_in : (n : Node) → asks_in left n ≡ (to_come climb n || asks_in rest n)
  left_in n = ap (λ (l : List Asked). asks_in l n) parts ∙ list_any-append (λ (a : Asked). same_node n a.0) (climb_left climb) rest

  pub raise_skips : (f : ℕ) (n : Node) → bound (table_mode u f n) (cond (eqb f e) (asked_in p rest n) None)
      ≡ bound (table_mode u f n) (cond (eqb f e) (asked_in p left n) None)
  raise_skips f n = skip_at (table_mode u f n) (asked_in p rest n) (eqb f e) (to_come climb n) (above_mode p)
      (λ same coming. ap (λ (o : Option Mode). is_enough o (above_mode p)) (by_name (λ g. table_mode u g n) f e same) ∙ passed n coming)
      ∙ ap (λ (o : Option Mode). bound (table_mode u f n) (cond (eqb f e) o None)) (sym (left_asks n))

  pub less_skips : (v : HeldAt) → IdleLess u v e (asks_in rest) → IdleLess u v e (asks_in left)
  less_skips v h = record {
    less = λ f n. h.less f n ∙ idle_at (is_idle u f n) (eqb f e) (to_come climb n) (asks_in rest n)
        (λ same coming. by_name (λ g. is_idle u g n) f e same ∙ held_idle e (u n) (above_mode p) (passed n coming))
        ∙ ap (λ (b : Bool). is_idle u f n && not (eqb f e && b)) (sym (left_in n));
  }

-- ---- places given back

-- what lies above what an access asks for is asked for
asked_over : (cover : List Node) (n k : Node) → is_above k n ≡ true → list_any (is_asked n) cover ≡ true
    → list_any (is_asked k) cover ≡ true
asked_over [] n k over asks = asks
asked_over (c ∷ cover) n k over asks = elim (or_cases (is_asked n c) (list_any (is_asked n) cover) asks) [
  | inl here ↦ or_left (is_asked k c) (list_any (is_asked k) cover) (over_asked k c (above_all k n c here over))
  | inr there ↦ or_right (is_asked k c) (list_any (is_asked k) cover) (asked_over cover n k over there)
]

-- who doesn't hold what is asked for one node of a cover doesn't hold what lies above
gone_over : (t : HeldAt) (e : ℕ) (cover : List Node) → ((c : Node) → list_any (same_node c) cover ≡ true → IsGone t e c)
    → (n k : Node) → is_above k n ≡ true → list_any (is_asked n) cover ≡ true → table_mode t e n ≡ None → table_mode t e k ≡ None
gone_over t e [] gone n k over asks none = absurd (true≢false (sym asks))
gone_over t e (c ∷ cover) gone n k over asks none = elim (or_cases (is_asked n c) (list_any (is_asked n) cover) asks) [
  | inl here ↦ gone c (or_left (same_node c c) (list_any (same_node c) cover) (same_node-self c)) n here none k over
  | inr there ↦ gone_over t e cover (λ d at. gone d (or_right (same_node d c) (list_any (same_node d) cover) at)) n k over there none
]

some_none : (o : Option Mode) → not (is_some o) ≡ true → o ≡ None
some_none None h = refl
some_none (Some m) h = absurd (true≢false (sym h))

pub take_closed : (t : HeldAt) (e : ℕ) (cover : List Node) → ((c : Node) → list_any (same_node c) cover ≡ true → IsGone t e c)
    → (n k : Node) → is_above k n ≡ true → (list_any (is_asked n) cover && not (is_some (table_mode t e n))) ≡ true
    → (list_any (is_asked k) cover && not (is_some (table_mode t e k))) ≡ true
take_closed t e cover gone n k over done =
    let at = and_parts (list_any (is_asked n) cover) (not (is_some (table_mode t e n))) done in
    and_from (list_any (is_asked k) cover) (not (is_some (table_mode t e k))) (asked_over cover n k over at.0)
    (ap (λ (o : Option Mode). not (is_some o)) (gone_over t e cover gone n k over at.0 (some_none (table_mode t e n) at.1)))

-- a node is given back
module _ (t u : HeldAt) (e : ℕ) (at : Node)
    (modes : (f : ℕ) (n : Node) → table_mode u f n ≡ cond (eqb f e && same_node n at) None (table_mode t f n)) where
  own_modes : (n : Node) → table_mode u e n ≡ cond (same_node n at) None (table_mode t e n)
  own_modes n = modes e n ∙ ap (λ (b : Bool). cond (b && same_node n at) None (table_mode t e n)) (eq-eqb e e refl)

  pub take_does : (cover : List Node) → list_any (is_asked at) cover ≡ true → (n : Node)
      → (list_any (is_asked n) cover && not (is_some (table_mode u e n)))
      ≡ ((list_any (is_asked n) cover && not (is_some (table_mode t e n))) || same_node n at)
  take_does cover asks n = elim (cases_Bool (same_node n at)) [
    | inl same ↦ and_from (list_any (is_asked n) cover) (not (is_some (table_mode u e n)))
        (subst (λ (z : Node). list_any (is_asked z) cover ≡ true) (sym (same_node-to n at same)) asks)
        (ap (λ (o : Option Mode). not (is_some o)) (own_modes n ∙ ap (λ (b : Bool). cond b None (table_mode t e n)) same))
        ∙ sym (or_right (list_any (is_asked n) cover && not (is_some (table_mode t e n))) (same_node n at) same)
    | inr other ↦ ap (λ (o : Option Mode). list_any (is_asked n) cover && not (is_some o))
        (own_modes n ∙ ap (λ (b : Bool). cond b None (table_mode t e n)) other)
        ∙ sym (or-false (list_any (is_asked n) cover && not (is_some (table_mode t e n))))
        ∙ ap (λ (b : Bool). (list_any (is_asked n) cover && not (is_some (table_mode t e n))) || b) (sym other)
  ]

  -- what isn't asked for stays
  pub others_stay : (cover : List Node) → list_any (is_asked at) cover ≡ true → (f : ℕ) (n : Node)
      → (eqb f e && list_any (is_asked n) cover) ≡ false → table_mode u f n ≡ table_mode t f n
  others_stay cover asks f n free = grind (arith, modes f n, free, asks, same_node-to n at)

-- at the end nothing is held of what is asked for
pub take_ends : (t u : HeldAt) (e : ℕ) (cover : List Node)
    → ((n : Node) → list_any (is_asked n) cover ≡ true → (list_any (is_asked n) cover && not (is_some (table_mode u e n))) ≡ true)
    → ((f : ℕ) (n : Node) → (eqb f e && list_any (is_asked n) cover) ≡ false → table_mode u f n ≡ table_mode t f n)
    → (f : ℕ) (n : Node) → table_mode u f n ≡ cond (eqb f e && list_any (is_asked n) cover) None (table_mode t f n)
take_ends t u e cover gone others f n = elim (cases_Bool (eqb f e && list_any (is_asked n) cover)) [
  | inl asks ↦ let parts = and_parts (eqb f e) (list_any (is_asked n) cover) asks in
      by_name (λ g. table_mode u g n) f e parts.0
      ∙ some_none (table_mode u e n) (and_parts (list_any (is_asked n) cover) (not (is_some (table_mode u e n))) (gone n parts.1)).1
      ∙ ap (λ (b : Bool). cond b None (table_mode t f n)) (sym asks)
  | inr free ↦ others f n free ∙ ap (λ (b : Bool). cond b None (table_mode t f n)) (sym free)
]
