-- The spots filed near the nodes of a tract's cover are those of the posts that share a cell with it.
use Rattle.std.proofs.Common.{◌≡◌, ℕ, Bool, true, false, ◌&&◌, ◌||◌, List, [], ◌∷◌, refl, sym, ap, ◌∙◌}
use Rattle.std.{specs.List.{AllByRecursion, list_any}, proofs.Math.Bool.{and-or_distrib_left}}
use Rattle.title_land.specs.{Depth.{depth}, declared.{node.Node.{Node}, tract.Land.{Land}}, Nodes.{same_node, above, is_above, are_related}}
use Rattle.title_land.specs.{Lands.{cover_of, meets, IsLand}, CoverSets.{covers_meet, MeetsByCovers}, Laws.SameNode.{same_node-is}}
use Rattle.title_land.specs.Laws.{LandSharing.{equal_tests}, CoversMeet.{meets_by_covers}}
use Rattle.title_chain.specs.{declared.{filing.Filing.{Filing}, spot.Spot.{Spot}}, PostSpots.{FiledPost, same_spot, is_spot_where}}
use Rattle.title_chain.specs.TractIndexes.{covers, covers_below, IsFiled, is_near}

-- ---- tests of lists

-- two sums of two tests, taken crosswise
crossed : (a b c d : Bool) → ((a || b) || (c || d)) ≡ ((a || c) || (b || d))
crossed true b c d = refl
crossed false true true d = refl
crossed false true false d = refl
crossed false false c d = refl

any_or : {X : Type 0} (p q : X → Bool) (xs : List X) → (list_any p xs || list_any q xs) ≡ list_any (λ x. p x || q x) xs
any_or p q [] = refl
any_or p q (x ∷ xs) = crossed (p x) (list_any p xs) (q x) (list_any q xs) ∙ ap (λ (b : Bool). (p x || q x) || b) (any_or p q xs)

none_any : {X : Type 0} (xs : List X) → false ≡ list_any (λ x. false) xs
none_any [] = refl
none_any (x ∷ xs) = none_any xs

-- whether two elements of two lists are related, from either list
any_swap : {X Y : Type 0} (r : X → Y → Bool) (xs : List X) (ys : List Y)
    → list_any (λ x. list_any (r x) ys) xs ≡ list_any (λ y. list_any (λ x. r x y) xs) ys
any_swap r [] ys = none_any ys
any_swap r (x ∷ xs) ys = ap (λ (b : Bool). list_any (r x) ys || b) (any_swap r xs ys) ∙ any_or (r x) (λ y. list_any (λ x. r x y) xs) ys

-- a test of each and another of all
any_and : {X : Type 0} (s : Bool) (test : X → Bool) (xs : List X) → list_any (λ x. s && test x) xs ≡ (s && list_any test xs)
any_and true test xs = refl
any_and false test xs = sym (none_any xs)

-- ---- spots of posts

-- the spots of the posts of such lands or of such
where_or : (left right : Land → Bool) (posts : List FiledPost) (p : Spot)
    → (is_spot_where left posts p || is_spot_where right posts p) ≡ is_spot_where (λ l. left l || right l) posts p
where_or left right posts p =
    any_or (λ x. same_spot p x.spot && left x.posting.tract) (λ x. same_spot p x.spot && right x.posting.tract) posts
    ∙ (λ i. list_any (λ x. sym (and-or_distrib_left (same_spot p x.spot) (left x.posting.tract) (right x.posting.tract)) i) posts)

-- the spots of the posts of lands that pass one of these tests
where_any : {X : Type 0} (tests : X → Land → Bool) (xs : List X) (posts : List FiledPost) (p : Spot) →
    list_any (λ a. is_spot_where (tests a) posts p) xs ≡ is_spot_where (λ l. list_any (λ a. tests a l) xs) posts p
where_any tests xs posts p = any_swap (λ a x. same_spot p x.spot && tests a x.posting.tract) xs posts
    ∙ (λ i. list_any (λ x. any_and (same_spot p x.spot) (λ a. tests a x.posting.tract) xs i) posts)

-- ---- nodes near a node

node_turned : (a b : Node) → same_node a b ≡ same_node b a
node_turned a b = equal_tests (same_node a b) (same_node b a) (turned a b) (turned b a)
  where
    turned : (m n : Node) → same_node m n ≡ true → same_node n m ≡ true
    turned m n h = (same_node-is n m).1 (sym ((same_node-is m n).0 h))

-- a node of the list is this one, or lies below it or above it
related_any : (n : Node) (nodes : List Node) →
    (list_any (same_node n) nodes || (list_any (is_above n) nodes || list_any (λ a. list_any (same_node a) nodes) (above n)))
    ≡ list_any (are_related n) nodes
related_any n nodes = ap (λ (b : Bool). list_any (same_node n) nodes || (list_any (is_above n) nodes || b))
    (any_swap same_node (above n) nodes ∙ (λ i. list_any (λ b. list_any (λ a. node_turned a b i) (above n)) nodes))
    ∙ ap (λ (b : Bool). list_any (same_node n) nodes || b) (any_or (is_above n) (λ b. is_above b n) nodes)
    ∙ any_or (same_node n) (λ b. is_above n b || is_above b n) nodes

-- ---- spots near a node

-- the land's cover has the node or one related to it
abbrev covers_near : ℕ → Node → Land → Bool
covers_near depth n l = list_any (are_related n) (cover_of depth l)

-- the spots filed near a node are those of the posts whose covers have it or a node related to it
near_is : (depth : ℕ) (f : Filing) (posts : List FiledPost) → IsFiled depth f posts → (p : Spot) (n : Node)
    → is_near f p n ≡ is_spot_where (covers_near depth n) posts p
near_is depth f posts filed p n = (λ i. filed.at n p i || (filed.below n p i || list_any (λ a. filed.at a p i) (above n)))
    ∙ ap (λ (b : Bool). is_spot_where (covers depth n) posts p || (is_spot_where (covers_below depth n) posts p || b))
    (where_any (covers depth) (above n) posts p)
    ∙ ap (λ (b : Bool). is_spot_where (covers depth n) posts p || b)
    (where_or (covers_below depth n) (λ l. list_any (λ a. covers depth a l) (above n)) posts p)
    ∙ where_or (covers depth n) (λ l. covers_below depth n l || list_any (λ a. covers depth a l) (above n)) posts p
    ∙ (λ i. is_spot_where (λ l. related_any n (cover_of depth l) i) posts p)

-- the spots of the posts whose covers meet a tract's are those of the posts that share a cell with it
where_meets : (depth : ℕ) → MeetsByCovers depth → (land : Land) → IsLand depth land → (posts : List FiledPost) →
    AllByRecursion (λ x. IsLand depth x.posting.tract) posts → (p : Spot)
    → is_spot_where (covers_meet depth land) posts p ≡ is_spot_where (meets land) posts p
where_meets d law land sized [] all p = refl
where_meets d law land sized (x ∷ posts) all p =
    λ i. (same_spot p x.spot && sym (law land x.posting.tract sized all.0) i) || where_meets d law land sized posts all.1 p i

-- the spots filed near the nodes of a tract's cover are those of the posts that share a cell with it
near_meets_at : (depth : ℕ) → MeetsByCovers depth → (f : Filing) (posts : List FiledPost) → IsFiled depth f posts → (land : Land)
    → IsLand depth land →
    (p : Spot) → list_any (is_near f p) (cover_of depth land) ≡ is_spot_where (meets land) posts p
near_meets_at depth law f posts filed land sized p = (λ i. list_any (λ n. near_is depth f posts filed p n i) (cover_of depth land))
    ∙ where_any (covers_near depth) (cover_of depth land) posts p
    ∙ where_meets depth law land sized posts filed.sized p

pub near_meets : (f : Filing) (posts : List FiledPost) → IsFiled depth f posts → (land : Land) → IsLand depth land →
    (p : Spot) → list_any (is_near f p) (cover_of depth land) ≡ is_spot_where (meets land) posts p
near_meets = near_meets_at depth (meets_by_covers depth)
