-- What a walk asks is what its access asks for, and what is done along its parts is done along the whole.
use Rattle.std.proofs.Common.{◌≡◌, Bool, true, false, cond, not, ◌&&◌, ◌||◌, List, [], ◌∷◌, ◌++◌, Option, Some, None, is_some, refl, sym}
use Rattle.std.proofs.Common.{ap, ◌∙◌, true≢false, ◌<◌, length, arith}
use Rattle.std.{proofs.lemmas.{Bool.{or_left, or_right, or_parts}}, specs.List.{list_any}}
use Rattle.title_land.specs.{declared.node.Node.{Node}, Nodes.{same_node, parent_of, above, is_above}}
use Rattle.title_land.specs.Laws.{NodeSharing.{above_is_transitive}, SameNode.{same_node-self, same_node-to}}
use Rattle.title_lock.specs.{declared.modes.Mode.{Mode}, Modes.{bound}, Asking.{own_mode, above_mode, asked}, Holders.{clashes}}
use Rattle.title_lock.proofs.NodeLaws.{above_apart, above_of}
use Rattle.title_lock.specs.Walks.{clashes_in, Asked, mode_for, is_known, asks_above, walk, asked_in, asks_in}
use Rattle.title_lock.{specs.Tables.{is_asked}, proofs.Overlap.{Allow, allow_bound, allow_parts}}
use Rattle.title_lock.proofs.ModeLaws.{bound_none, bound_assoc, bound_turn, sup_self}
use Rattle.title_land.specs.declared.node.Node.TheVariants as node

-- ---- parts in turn

pub asked_append : (p : Bool) (l r : List Asked) (n : Node) → asked_in p (l ++ r) n ≡ bound (asked_in p l n) (asked_in p r n)
asked_append p [] r n = refl
asked_append p (a ∷ l) r n = ap (bound (cond (same_node n a.0) (Some (mode_for p a.1)) None)) (asked_append p l r n)
    ∙ sym (bound_assoc (cond (same_node n a.0) (Some (mode_for p a.1)) None) (asked_in p l n) (asked_in p r n))

-- ---- nodes above

-- what lies above a known node is known
pub known_above : (last : Option Node) (p n : Node) → is_known last p ≡ true → is_above n p ≡ true → is_known last n ≡ true
known_above None p n h up = absurd (true≢false (sym h))
known_above (Some l) p n h up = above_is_transitive n p l up h

-- nothing is asked of nodes that are all known
none_new : (last : Option Node) (nodes : List Node) → ((n : Node) → list_any (same_node n) nodes ≡ true → is_known last n ≡ true)
    → asks_above last nodes ≡ []
none_new last [] h = refl
none_new last (m ∷ nodes) h = ap (λ (k : Bool). cond k (asks_above last nodes) ((m, false) ∷ asks_above last nodes))
    (h m (or_left (same_node m m) (list_any (same_node m) nodes) (same_node-self m)))
    ∙ none_new last nodes (λ n up. h n (or_right (same_node n m) (list_any (same_node n) nodes) up))

-- where the node above is known nothing is asked of it and of those above it
pub known_stops : (last : Option Node) (c p : Node) → Some p ≡ parent_of c → is_known last p ≡ true → asks_above last (above c) ≡ []
known_stops last c p up h = ap (asks_above last) (above_of c p up)
    ∙ ap (λ (k : Bool). cond k (asks_above last (above p)) ((p, false) ∷ asks_above last (above p))) h
    ∙ none_new last (above p) (λ n. known_above last p n h)

pub unknown_goes : (last : Option Node) (c p : Node) → Some p ≡ parent_of c → is_known last p ≡ false
    → asks_above last (above c) ≡ (p, false) ∷ asks_above last (above p)
unknown_goes last c p up h = ap (asks_above last) (above_of c p up)
    ∙ ap (λ (k : Bool). cond k (asks_above last (above p)) ((p, false) ∷ asks_above last (above p))) h

-- nothing is asked above a node that has none above it
pub none_above : (last : Option Node) (c : Node) → None ≡ parent_of c → asks_above last (above c) ≡ []
none_above last node.Everything h = refl
none_above last (node.Township t) h = absurd cc
none_above last (node.Part s w) h = absurd cc

-- above a node it is asked where it isn't known
pub above_asks : (last : Option Node) (nodes : List Node) (n : Node)
    → asks_in (asks_above last nodes) n ≡ (list_any (same_node n) nodes && not (is_known last n))
above_asks last [] n = refl
above_asks last (m ∷ nodes) n = grind (arith, above_asks last nodes n, same_node-to n m)

-- ---- the modes that a walk asks

-- above a node the mode for nodes above is asked, where it isn't known
pub above_asked : (p : Bool) (last : Option Node) (nodes : List Node) (n : Node)
    → asked_in p (asks_above last nodes) n ≡ cond (list_any (same_node n) nodes && not (is_known last n)) (Some (above_mode p)) None
above_asked p last [] n = refl
above_asked p last (m ∷ nodes) n = grind (arith, above_asked p last nodes n, same_node-to n m, sup_self)

-- with what is known of the node before, a walk asks what its cover asks
walk_step : (s u k : Bool) (o m : Mode) (w r : Option Mode) → (s ≡ true → u ≡ false)
    → bound w (cond u (Some m) None) ≡ bound r (cond u (Some m) None)
    → bound (bound (bound (cond s (Some o) None) (cond (u && not k) (Some m) None)) w) (cond k (Some m) None)
    ≡ bound (bound (cond s (Some o) (cond u (Some m) None)) r) (cond k (Some m) None)
walk_step s u k o m w r h e = grind (arith, sup_self, bound_none, bound_turn, bound_assoc)

walk_asks : (p : Bool) (last : Option Node) (cover : List Node) (n : Node)
    → bound (asked_in p (walk last cover) n) (cond (is_known last n) (Some (above_mode p)) None)
    ≡ bound (asked p cover n) (cond (is_known last n) (Some (above_mode p)) None)
walk_asks p last [] n = refl
walk_asks p last (c ∷ cover) n =
    grind (
      arith,
      asked_append p ((c, true) ∷ asks_above last (above c)) (walk (Some c) cover) n,
      above_asked p last (above c) n,
      walk_step (same_node n c) (is_above n c) (is_known last n) (own_mode p) (above_mode p) (asked_in p (walk (Some c) cover) n)
          (asked p cover n) (above_apart n c) (walk_asks p (Some c) cover n),
    )

-- the walk over a cover asks what the access asks for
pub walk_asked : (p : Bool) (cover : List Node) (n : Node) → asked_in p (walk None cover) n ≡ asked p cover n
walk_asked p cover n = sym (bound_none (asked_in p (walk None cover) n)) ∙ walk_asks p None cover n ∙ bound_none (asked p cover n)

-- ---- and where

some_bound : (a b : Option Mode) → is_some (bound a b) ≡ (is_some a || is_some b)
some_bound a b = grind arith

asks_some : (p : Bool) (l : List Asked) (n : Node) → is_some (asked_in p l n) ≡ asks_in l n
asks_some p [] n = refl
asks_some p (a ∷ l) n = grind (arith, some_bound, asks_some p l n)

pub asked_some : (p : Bool) (cover : List Node) (n : Node) → is_some (asked p cover n) ≡ list_any (is_asked n) cover
asked_some p [] n = refl
asked_some p (c ∷ cover) n = grind (arith, some_bound, asked_some p cover n)

-- a node is in the walk exactly where it is asked
pub walk_asks_in : (cover : List Node) (n : Node) → asks_in (walk None cover) n ≡ list_any (is_asked n) cover
walk_asks_in cover n =
    sym (asks_some true (walk None cover) n) ∙ ap (λ (z : Option Mode). is_some z) (walk_asked true cover n) ∙ asked_some true cover n

pub none_some : (r : Option Mode) → is_some r ≡ false → r ≡ None
none_some r h = grind arith

-- ---- who is in the way

-- where nothing clashes, what is asked stands beside what is held
pub fits_in : (p : Bool) (held : Node → Option Mode) (l : List Asked) → clashes_in p held l ≡ false → Allow (asked_in p l) held
fits_in p held [] h = λ n. refl
fits_in p held (a ∷ l) h =
    let k = or_parts (clashes (mode_for p a.1) (held a.0)) (clashes_in p held l) h in
    allow_bound (λ n. cond (same_node n a.0) (Some (mode_for p a.1)) None) (asked_in p l) held
    (λ n. grind (arith, same_node-to n a.0, k.0)) (fits_in p held l k.1)

-- and the other way round
pub clear_in : (p : Bool) (held : Node → Option Mode) (l : List Asked) → Allow (asked_in p l) held → clashes_in p held l ≡ false
clear_in p held [] fit = refl
clear_in p held (a ∷ l) fit =
    let k = allow_parts (λ n. cond (same_node n a.0) (Some (mode_for p a.1)) None) (asked_in p l) held fit in
    grind (arith, k.0 a.0, same_node-self a.0, clear_in p held l k.1)

-- less is left after a walk's next node
pub walk_shorter : {left : List Asked} {a : Asked} {rest : List Asked} → left ≡ a ∷ rest → length rest < length left
walk_shorter parts = let long = ap (λ (z : List Asked). length z) parts in omega (arith, long)
