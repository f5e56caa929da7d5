-- Who is in the way along one part of a walk and then another is in the way along both, and rooms are taken back so.
use Rattle.std.proofs.Common.{◌≡◌, ◌≢◌, ℕ, Bool, true, false, not, ◌&&◌, ◌||◌, List, [], ◌∷◌, ◌++◌, Option, Some, None, eqb, refl, sym}
use Rattle.std.proofs.{Common.{ap, subst, ◌∙◌, append_assoc, append-nil}, lemmas.Bool.{or_left, or_right, or_from}}
use Rattle.std.{proofs.{Common.{arith}, lemmas.List.Folds.{list_any-append}}, specs.List.{list_any}}
use mathlib.Core.Bool.{or-false}
use Rattle.title_land.specs.{declared.node.Node.{Node}, Nodes.{same_node, above}, Laws.SameNode.{same_node-self}}
use Rattle.title_lock.specs.{declared.modes.Mode.{Mode}, Modes.{allows, intention, is_enough}, Asking.{above_mode}, Holders.{clashes}}
use Rattle.title_lock.specs.{Overlaps.{IsLeast, least}, Tables.{HeldAt, table_mode, is_idle, IdleLess, IsRooted}}
use Rattle.title_lock.specs.Walks.{Asked, mode_for, asks_above, asks_in, clashes_in}
use Rattle.title_lock.proofs.{IdleLaws.{less_join}, LeastLaws.{least_join, least_same}}
use Rattle.title_lock.proofs.Intentions.{self_asked, enough_above, enough_allows}

-- one test in place of another that passes the same nodes
pub less_is : (t u : HeldAt) (e : ℕ) (p r : Node → Bool) → ((n : Node) → p n ≡ r n) → IdleLess t u e p → IdleLess t u e r
less_is t u e p r same h = record {
  less = λ f n. h.less f n ∙ ap (λ (z : Bool). is_idle t f n && not (eqb f e && z)) (same n);
}

-- ---- the least in the way

least_none : (a : Option ℕ) → least a None ≡ a
least_none None = refl
least_none (Some x) = refl

-- nobody is in the way of nothing
pub way_none : (p : Bool) (held : ℕ → Node → Option Mode) (e : ℕ) → IsLeast (λ f. clashes_in p (held f) []) e None
way_none p held e f other = refl

pub way_one : (p own : Bool) (held : ℕ → Node → Option Mode) (e : ℕ) (c : Node) (w : Option ℕ)
    → IsLeast (λ f. clashes (mode_for p own) (held f c)) e w → IsLeast (λ f. clashes_in p (held f) ((c, own) ∷ [])) e w
way_one p own held e c w h = least_same (λ f. clashes (mode_for p own) (held f c)) (λ f. clashes_in p (held f) ((c, own) ∷ [])) e w
    (λ f other. sym (or-false (clashes (mode_for p own) (held f c)))) h

pub way_join : (p : Bool) (held : ℕ → Node → Option Mode) (e : ℕ) (l r : List Asked) (v w : Option ℕ)
    → IsLeast (λ f. clashes_in p (held f) l) e v → IsLeast (λ f. clashes_in p (held f) r) e w
    → IsLeast (λ f. clashes_in p (held f) (l ++ r)) e (least v w)
way_join p held e l r v w first then =
    least_same (λ f. clashes_in p (held f) l || clashes_in p (held f) r) (λ f. clashes_in p (held f) (l ++ r)) e (least v w)
    (λ f other. sym (list_any-append (λ (a : Asked). clashes (mode_for p a.1) (held f a.0)) l r))
    (least_join (λ f. clashes_in p (held f) l) (λ f. clashes_in p (held f) r) e v w first then)

-- above nodes where nobody is in the way none is asked
clear_above : (p : Bool) (held : Node → Option Mode) (last : Option Node) (nodes : List Node)
    → ((n : Node) → list_any (same_node n) nodes ≡ true → clashes (above_mode p) (held n) ≡ false)
    → clashes_in p held (asks_above last nodes) ≡ false
clear_above p held last [] clear = refl
clear_above p held last (m ∷ nodes) clear =
    grind (
      arith,
      clear m (or_left (same_node m m) (list_any (same_node m) nodes) (same_node-self m)),
      clear_above p held last nodes (λ n at. clear n (or_right (same_node n m) (list_any (same_node n) nodes) at)),
    )

-- what is asked above has the intention of what is asked
intends_above : (p own : Bool) → intention (mode_for p own) ≡ above_mode p
intends_above false false = refl
intends_above false true = refl
intends_above true false = refl
intends_above true true = refl

beside : (m : Mode) (a b : Option Mode) → is_enough a m ≡ true → allows a b ≡ true → clashes m b ≡ false
beside m a b enough fits = ap not (enough_allows a b m enough fits)

-- where an examiner holds enough of a node, nobody else is in its way there, nor above
pub clear_held : (t : HeldAt) (e f : ℕ) (p own : Bool) (c : Node) (last : Option Node)
    → is_enough (table_mode t e c) (mode_for p own) ≡ true → IsRooted t e c
    → ((n : Node) → allows (table_mode t e n) (table_mode t f n) ≡ true)
    → clashes_in p (λ n. table_mode t f n) ((c, own) ∷ asks_above last (above c)) ≡ false
clear_held t e f p own c last enough rooted apart = or_from _ _
    (beside (mode_for p own) (table_mode t e c) (table_mode t f c) enough (apart c))
    (clear_above p (λ n. table_mode t f n) last (above c) (λ n up.
    beside (above_mode p) (table_mode t e n) (table_mode t f n)
    (ap (is_enough (table_mode t e n)) (sym (intends_above p own))
    ∙ enough_above (table_mode t e c) (table_mode t e n) (mode_for p own) enough (rooted c (self_asked c) n up)) (apart n)))

-- ---- rooms along a walk

-- rooms are taken back at a node and then at the rest
pub dropped_then : (t u : HeldAt) (e : ℕ) (own : Bool) (c : Node) {left : List Asked} (r : List Asked) (parts : left ≡ (c, own) ∷ r)
    → IdleLess t u e (λ n. same_node n c) → (v : HeldAt) → IdleLess u v e (asks_in r) → IdleLess t v e (asks_in left)
dropped_then t u e own c {left} r parts first v rest = less_join t u v e (λ n. same_node n c) (asks_in r) (asks_in left)
    (λ n. sym (ap (λ (z : List Asked). asks_in z n) parts)) first rest

-- the least in the way so far, of a whole of which this is left
pub record IsSoFar (p : Bool) (held : ℕ → Node → Option Mode) (e : ℕ) (whole : List Asked) (left : List Asked) (way : Option ℕ)
    : Type 0 where
  pub done : List Asked
  pub parts : whole ≡ done ++ left
  pub is_least : IsLeast (λ f. clashes_in p (held f) done) e way

module _ (p : Bool) (held : ℕ → Node → Option Mode) (e : ℕ) (whole : List Asked) where
  pub so_far_begins : (left : List Asked) → left ≡ whole → IsSoFar p held e whole left None
  so_far_begins left all = record { done = []; parts = sym all; is_least = way_none p held e }

  pub so_far_goes : {left : List Asked} (l r : List Asked) (way next : Option ℕ) → left ≡ l ++ r → IsSoFar p held e whole left way
      → IsLeast (λ f. clashes_in p (held f) l) e next → IsSoFar p held e whole r (least way next)
  so_far_goes l r way next parts far step = record {
    done = far.done ++ l;
    parts = far.parts ∙ ap (λ (z : List Asked). far.done ++ z) parts ∙ sym (append_assoc far.done l r);
    is_least = way_join p held e far.done l way next far.is_least step;
  }

  -- nobody is in the way of what is left out
  pub so_far_skips : {left : List Asked} (l r : List Asked) (way : Option ℕ) → left ≡ l ++ r → IsSoFar p held e whole left way
      → ((f : ℕ) → f ≢ e → clashes_in p (held f) l ≡ false) → IsSoFar p held e whole r way
  so_far_skips l r way parts far clear =
      subst (λ (w : Option ℕ). IsSoFar p held e whole r w) (least_none way) (so_far_goes l r way None parts far clear)

  pub so_far_ends : (left : List Asked) (way : Option ℕ) → left ≡ [] → IsSoFar p held e whole left way
      → IsLeast (λ f. clashes_in p (held f) whole) e way
  so_far_ends left way none far = subst (λ (z : List Asked). IsLeast (λ f. clashes_in p (held f) z) e way)
      (sym (far.parts ∙ ap (λ (z : List Asked). far.done ++ z) none ∙ append-nil far.done)) far.is_least
