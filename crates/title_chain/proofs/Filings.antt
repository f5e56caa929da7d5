-- One spot more under a node, and one post more under the nodes of its cover and those above them.
use Rattle.std.proofs.Common.{◌≡◌, ◌≢◌, ◌<◌, ◌+◌, ℕ, Bool, true, false, cond, ◌&&◌, ◌||◌, List, [], ◌∷◌, ◌++◌, Option, Some, length, get_or}
use Rattle.std.{proofs.Common.{take, reverse, append_assoc, arith, refl, sym, ap, subst, ◌∙◌, eqb}, specs.{Prelude.{IsSome}, Global.{Vec}}}
use Rattle.std.specs.{Ordering.{nat_cmp}, BTreeMap.{BTreeMap, get, is_at}, Cmp.{unsigned_tied}, List.{list_any}}
use Rattle.std.proofs.lemmas.List.{take_more, reverse-append, length-reverse, length-take-le, Folds.{list_any-append}}
use Rattle.std.proofs.{Math.Bool.{or-false, or_assoc, and_comm, and-or_distrib_right}, lemmas.Bool.{eqb-true}}
use Rattle.title_land.specs.{declared.{node.Node.{Node}, tract.Land.{Land}}, Nodes.{same_node, above, is_above}, Lands.{cover_of, IsLand}}
use Rattle.title_land.specs.{Laws.CoverSet.{above_by_parent}, NodeNumbers.{node_number, number_above}}
use Rattle.title_land.specs.Laws.NodeNumbers.{number_at, node_above, whole_is}
use Rattle.title_store.specs.Laws.Each.{each_append}
use Rattle.title_chain.specs.declared.{ask.{Ask.{Ask}, Answer.{Answer}, Posting.{Posting}, Step.{Step}}, filing.Filing.{Filing}}
use Rattle.title_chain.specs.PostSpots.{FiledPost, post_of, posting_of, spot_at, step_posts, same_spot, is_listed, is_spot_where}
use Rattle.title_chain.specs.TractIndexes.{IsFiled, covers, covers_below}
use Rattle.title_chain.specs.{declared.spot.Spot.{Spot}, SpotMaps.{spots_in, spots_numbered, spots_under}}
use Rattle.title_chain.specs.declared.ask.Ask.TheVariants as ask
use Rattle.title_chain.specs.declared.ask.Answer.TheVariants as answer

-- ---- one spot more under a node

-- lists of spots by the numbers of nodes
abbrev pub Lists : Type 0
Lists = BTreeMap ℕ (Vec Spot)

-- the second map is the first with this at a number
abbrev pub Writes : Lists → Lists → ℕ → Option (Vec Spot) → Type 0
Writes m n k w = (q : ℕ) → get nat_cmp n q ≡ cond (is_at (nat_cmp k) q) w (get nat_cmp m q)

-- a map with one spot more at a number has it there, and no other anywhere
pub one_more_under : (m n : Lists) (k : ℕ) (w : Option (Vec Spot)) (spot : Spot) → Writes m n k w →
    ((p : Spot) → is_listed p (spots_in w) ≡ (is_listed p (spots_numbered m k) || same_spot p spot)) →
    (q : ℕ) (p : Spot) → is_listed p (spots_numbered n q) ≡ (is_listed p (spots_numbered m q) || (eqb k q && same_spot p spot))
one_more_under m n k w spot h here q p =
    ap (λ (o : Option (Vec Spot)). is_listed p (spots_in o)) (h q ∙ ap (λ (b : Bool). cond b w (get nat_cmp m q)) (unsigned_tied k q))
    ∙ go (eqb k q) refl
  where
    go : (b : Bool) → eqb k q ≡ b → is_listed p (spots_in (cond b w (get nat_cmp m q)))
        ≡ (is_listed p (spots_numbered m q) || (b && same_spot p spot))
    go true s = here p ∙ ap (λ (x : ℕ). is_listed p (spots_numbered m x) || same_spot p spot) (eqb-true k q s)
    go false s = sym (or-false (is_listed p (spots_numbered m q)))

-- a map with one spot more at the number of a node has it at that node
pub at_node : (m n : Lists) (k : ℕ) (c : Node) (spot : Spot) → k ≡ node_number c →
    ((q : ℕ) (p : Spot) → is_listed p (spots_numbered n q) ≡ (is_listed p (spots_numbered m q) || (eqb k q && same_spot p spot))) →
    (q : Node) (p : Spot) → is_listed p (spots_under n q) ≡ (is_listed p (spots_under m q) || (same_node q c && same_spot p spot))
at_node m n k c spot is h q p = h (node_number q) p ∙ ap (λ (b : Bool). is_listed p (spots_under m q) || (b && same_spot p spot))
    (ap (λ (z : ℕ). eqb z (node_number q)) is ∙ number_at c q)

-- what a borrowed list was found with
pub is_there : (v : Vec Spot) (o : Option (Vec Spot)) → Some v ≡ o → IsSome o
is_there v o h = subst (λ (z : Option (Vec Spot)). IsSome z) h refl

-- ---- at the nodes above a node, one after another

-- a test of a list, and another test
pub any_with : {X : Type 0} (test : X → Bool) (also : Bool) (xs : List X) → list_any (λ x. test x && also) xs ≡ (list_any test xs && also)
any_with test also [] = refl
any_with test also (x ∷ xs) =
    ap (λ (b : Bool). (test x && also) || b) (any_with test also xs) ∙ sym (and-or_distrib_right (test x) (list_any test xs) also)

-- a node above n, or n itself, with this number: what holds now, or of a node above that one, is what held before, or of one above n
pub record IsClimbedTo {X : Type 0} (test : X → Node → Bool) (was now : X → Bool) (n : Node) (k : ℕ) : Type 0 where
  pub reached : Node
  pub numbered : k ≡ node_number reached
  pub so_far : (x : X) → (now x || list_any (test x) (above reached)) ≡ (was x || list_any (test x) (above n))

-- one node further up
pub climbed_further : {X : Type 0} {test : X → Node → Bool} {was m now : X → Bool} {n : Node} {k next : ℕ} → IsClimbedTo test was m n k
    → k ≢ 0 → next ≡ number_above k → ((a : Node) → next ≡ node_number a → (x : X) → now x ≡ (m x || test x a))
    → IsClimbedTo test was now n next
climbed_further {X} {test} {was} {m} {now} {n} {k} {next} so positive is one =
    let up = node_above so.reached k so.numbered positive in record {
      reached = up.parent;
      numbered = is ∙ up.numbered;
      so_far = λ x. ap (λ (b : Bool). b || list_any (test x) (above up.parent)) (one up.parent (is ∙ up.numbered) x)
          ∙ or_assoc (m x) (test x up.parent) (list_any (test x) (above up.parent))
          ∙ ap (λ (nodes : List Node). m x || list_any (test x) nodes) (sym (above_by_parent.1 so.reached up.parent (sym up.is)))
          ∙ so.so_far x;
    }

-- up to the whole plant
pub climbed_to_the_top : {X : Type 0} {test : X → Node → Bool} {was now : X → Bool} {n : Node} {k : ℕ} → IsClimbedTo test was now n k
    → k ≡ 0 → (x : X) → now x ≡ (was x || list_any (test x) (above n))
climbed_to_the_top {X} {test} {was} {now} so none x = sym (or-false (now x))
    ∙ ap (λ (a : Node). now x || list_any (test x) (above a)) (sym (whole_is so.reached (sym so.numbered ∙ none))) ∙ so.so_far x

-- ---- one step of a record more

-- the posts of the first steps, and of the next one
pub steps_more : (index : ℕ) (steps : List Step) (i : ℕ) (s : Step) (posts : List FiledPost) → i < length steps → s ≡ get_or steps i s →
    (posts ++ step_posts index (reverse (take i steps))) ++ post_of (spot_at index i) (posting_of s.ask s.answer) ≡ posts
    ++ step_posts index (reverse (take (i + 1) steps))
steps_more index steps i s posts low is =
    rw (take_more steps i s low, ← is, reverse-append, length-reverse, length-take-le i steps (omega arith), append_assoc) refl

-- ---- one post more

-- the spot is that of the post, if its land passes, or of one before
where_more : (test : Land → Bool) (posts : List FiledPost) (x : FiledPost) (p : Spot) →
    is_spot_where test (posts ++ x ∷ []) p ≡ (is_spot_where test posts p || (test x.posting.tract && same_spot p x.spot))
where_more test posts x p = list_any-append (λ (y : FiledPost). same_spot p y.spot && test y.posting.tract) posts (x ∷ [])
    ∙ ap (λ (b : Bool). is_spot_where test posts p || b)
    (or-false (same_spot p x.spot && test x.posting.tract) ∙ and_comm (same_spot p x.spot) (test x.posting.tract))

-- lists by nodes that had the spots of posts, and have one more under the nodes that pass
kept_more : (test : Land → Bool) (posts : List FiledPost) (x : FiledPost) (p : Spot) (was now passes : Bool) →
    passes ≡ test x.posting.tract → was ≡ is_spot_where test posts p → now ≡ (was || (passes && same_spot p x.spot)) →
    now ≡ is_spot_where test (posts ++ x ∷ []) p
kept_more test posts x p was now passes tested kept more =
    more ∙ (λ i. kept i || (tested i && same_spot p x.spot)) ∙ sym (where_more test posts x p)

-- a filing with the post of a step more
pub step_filed : (depth : ℕ) (f g : Filing) (spot : Spot) (a : Ask) (given : Answer) (posting : Posting) (cover : List Node) →
    a ≡ ask.Post posting → given ≡ answer.Posted → cover ≡ cover_of depth posting.tract → IsLand depth posting.tract →
    ((n : Node) (p : Spot) → is_listed p (spots_under g.at n)
    ≡ (is_listed p (spots_under f.at n) || (list_any (same_node n) cover && same_spot p spot))) →
    ((n : Node) (p : Spot) → is_listed p (spots_under g.below n)
    ≡ (is_listed p (spots_under f.below n) || (list_any (is_above n) cover && same_spot p spot))) →
    (posts : List FiledPost) → IsFiled depth f posts → IsFiled depth g (posts ++ post_of spot (posting_of a given))
step_filed depth f g spot a given posting cover is done covered sized at below posts filed =
    let x : FiledPost = record { spot = spot; posting = posting } in
    let more : IsFiled depth g (posts ++ x ∷ []) = record {
      at = λ n p. kept_more (covers depth n) posts x p _ _ _ (ap (list_any (same_node n)) covered) (filed.at n p) (at n p);
      below = λ n p. kept_more (covers_below depth n) posts x p _ _ _ (ap (list_any (is_above n)) covered) (filed.below n p) (below n p);
      sized = each_append (λ (y : FiledPost). IsLand depth y.posting.tract) posts (x ∷ []) filed.sized (sized, tt);
    } in
    rw (is, done) more
