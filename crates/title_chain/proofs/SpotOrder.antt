-- The spots of posts ascend, and a list of the spots of posts of a kind that ascends has them in their order.
use Rattle.std.proofs.Common.{◌≡◌, ℕ, ◌<◌, suc, Bool, true, false, cond, ◌&&◌, ◌||◌, List, [], ◌∷◌, ◌++◌, length, map, refl, sym, ◌∙◌}
use Rattle.std.proofs.{Common.{Option, Some, None, reverse, arith}, Math.Bool.{and-true, and-false}}
use Rattle.std.proofs.lemmas.{Bool.{lt-ltb}, List.Kept.{IsStrictlySortedBy-filter}, Map.Lookups.{btree_set_from_contains}}
use Rattle.std.specs.{BTreeMap.{is_at}, Cmp.{nat_cmp_total, tied_itself}}
use Rattle.std.specs.{declared.cmp.Ordering.{Ordering, TheVariants.{Less}}, List.{AllByRecursion, list_any, Sorted.{IsStrictlySortedBy}}}
use Rattle.title_land.specs.declared.tract.Land.{Land}
use Rattle.title_store.specs.Laws.Each.{each_from, each_append, each_map}
use Rattle.title_chain.specs.declared.{ask.{Posting.{Posting}, Step.{Step}}, spot.Spot.{Spot}, record.Record.{Record}}
use Rattle.title_chain.{specs.{SpotMaps.{spot_cmp}, PostSpots.{spots_where}}, proofs.FoundLaws.{spot_tied, spot_at_is}}
use Rattle.title_chain.specs.PostSpots.{FiledPost, post_of, posting_of, spot_at, step_posts, record_posts, posts_where, same_spot}
use Rattle.title_chain.specs.PostSpots.{is_listed, is_spot_where}
use Rattle.title_chain.specs.contracts.spot.SpotOrd.TheImpl.Laws as spot_laws

-- a spot of an earlier record stands before one of a later record
before_record : (a b : Spot) → a.record < b.record → spot_cmp a b ≡ Less
before_record a b h = rw (lt-ltb a.record b.record h) refl

-- a spot of an earlier step stands before one of a later step of its record
before_step : (a b : Spot) → a.record ≡ b.record → a.step < b.step → spot_cmp a b ≡ Less
before_step a b e h = rw (e, tied_itself nat_cmp_total b.record, lt-ltb a.step b.step h) refl

-- posts by their spots
abbrev pub post_cmp : FiledPost → FiledPost → Ordering
post_cmp x y = spot_cmp x.spot y.spot

-- the post stands before each of these
abbrev pub IsBefore : FiledPost → List FiledPost → Type 0
IsBefore x posts = AllByRecursion (λ y. post_cmp x y ≡ Less) posts

-- each post stands before those after it
abbrev pub Ascend : List FiledPost → Type 0
Ascend posts = IsStrictlySortedBy post_cmp posts

ascend_append : (xs ys : List FiledPost) → Ascend xs → Ascend ys → AllByRecursion (λ x. IsBefore x ys) xs → Ascend (xs ++ ys)
unfolding IsStrictlySortedBy
ascend_append [] ys h k before = k
ascend_append (x ∷ xs) ys h k before = (each_append (λ y. post_cmp x y ≡ Less) xs ys h.0 before.0, ascend_append xs ys h.1 k before.1)

-- the post is that of one of so many steps of the record at an index
abbrev pub IsAmong : ℕ → ℕ → FiledPost → Type 0
IsAmong i n x = (x.spot.record ≡ i) × (x.spot.step < n)

one_among : (i n : ℕ) (o : Option Posting) → AllByRecursion (IsAmong i (suc n)) (post_of (spot_at i n) o)
one_among i n None = tt
one_among i n (Some p) = ((refl, omega arith), tt)

pub steps_among : (i : ℕ) (steps : List Step) → AllByRecursion (IsAmong i (length steps)) (step_posts i steps)
steps_among i [] = tt
steps_among i (s ∷ earlier) = each_append _ (step_posts i earlier) _
    (each_from (IsAmong i (length earlier)) (IsAmong i (suc (length earlier))) (step_posts i earlier) (λ x h. (h.0, omega (arith, h.1)))
    (steps_among i earlier))
    (one_among i (length earlier) (posting_of s.ask s.answer))

one_ascends : (p : Spot) (o : Option Posting) → Ascend (post_of p o)
unfolding IsStrictlySortedBy
one_ascends p None = tt
one_ascends p (Some x) = (tt, tt)

one_after : (i n : ℕ) (x : FiledPost) (o : Option Posting) → IsAmong i n x → IsBefore x (post_of (spot_at i n) o)
one_after i n x None h = tt
one_after i n x (Some p) h = (before_step x.spot (spot_at i n) h.0 h.1, tt)

pub steps_ascend : (i : ℕ) (steps : List Step) → Ascend (step_posts i steps)
unfolding IsStrictlySortedBy
steps_ascend i [] = tt
steps_ascend i (s ∷ earlier) =
    let one = posting_of s.ask s.answer in
    ascend_append (step_posts i earlier) _ (steps_ascend i earlier) (one_ascends (spot_at i (length earlier)) one)
    (each_from (IsAmong i (length earlier)) _ (step_posts i earlier) (λ x h. one_after i (length earlier) x one h) (steps_among i earlier))

-- the post is that of one of the first records
abbrev pub IsWithin : ℕ → FiledPost → Type 0
IsWithin n x = x.spot.record < n

records_within : (records : List Record) → AllByRecursion (IsWithin (length records)) (record_posts records)
records_within [] = tt
records_within (r ∷ older) = each_append _ (record_posts older) _
    (each_from (IsWithin (length older)) (IsWithin (suc (length older))) (record_posts older) (λ x h. omega (arith, h))
    (records_within older))
    (each_from (IsAmong (length older) (length (reverse r.steps))) (IsWithin (suc (length older)))
    (step_posts (length older) (reverse r.steps)) (λ x h. omega (arith, h.0)) (steps_among (length older) (reverse r.steps)))

pub records_ascend : (records : List Record) → Ascend (record_posts records)
unfolding IsStrictlySortedBy
records_ascend [] = tt
records_ascend (r ∷ older) =
    let steps : List Step = reverse r.steps in
    let i : ℕ = length older in
    ascend_append (record_posts older) (step_posts i steps) (records_ascend older) (steps_ascend i steps)
    (each_from (IsWithin i) (λ x. IsBefore x (step_posts i steps)) (record_posts older)
    (λ x h. each_from (IsAmong i (length steps)) (λ y. spot_cmp x.spot y.spot ≡ Less) (step_posts i steps)
    (λ y k. before_record x.spot y.spot (omega (arith, h, k.0))) (steps_among i steps))
    (records_within older))

-- the spots of posts ascend where the posts do
spots_sorted : (posts : List FiledPost) → Ascend posts → IsStrictlySortedBy spot_cmp (map (λ x. x.spot) posts)
unfolding IsStrictlySortedBy
spots_sorted [] h = tt
spots_sorted (x ∷ posts) h = (each_map (λ (y : FiledPost). y.spot) (λ q. spot_cmp x.spot q ≡ Less) posts h.0, spots_sorted posts h.1)

-- a spot is among those of posts of a kind exactly if it is that of such a post
where_found : (test : Land → Bool) (posts : List FiledPost) (p : Spot)
    → list_any (is_at (spot_cmp p)) (spots_where test posts) ≡ is_spot_where test posts p
where_found test [] p = refl
where_found test (x ∷ posts) p = go (test x.posting.tract) (where_found test posts p)
  where
    found : List FiledPost → Bool
    found xs = list_any (is_at (spot_cmp p)) (map (λ y. y.spot) xs)

    go : (b : Bool) → found (posts_where test posts) ≡ is_spot_where test posts p →
        found (cond b (x ∷ posts_where test posts) (posts_where test posts)) ≡ ((same_spot p x.spot && b) || is_spot_where test posts p)
    go true rest = λ i. (spot_at_is p x.spot ∙ sym (and-true (same_spot p x.spot))) i || rest i
    go false rest = λ i. sym (and-false (same_spot p x.spot)) i || rest i

-- a list that ascends and has the spots of posts of a kind has them in the posts' order
pub keys_are : (found : List Spot) (posts : List FiledPost) (test : Land → Bool) → IsStrictlySortedBy spot_cmp found → Ascend posts →
    ((p : Spot) → is_listed p found ≡ is_spot_where test posts p) → found ≡ spots_where test posts
keys_are found posts test ordered ascend same =
    btree_set_from_contains spot_laws.total-law (record { keys = found }) (record { keys = spots_where test posts }) ordered
    (spots_sorted (posts_where test posts) (IsStrictlySortedBy-filter post_cmp (λ x. test x.posting.tract) posts ascend))
    (λ p. (λ i. list_any (λ q. spot_at_is p q i) found) ∙ same p ∙ sym (where_found test posts p)) spot_tied
