-- The entries of the steps at the spots of posts are those of the records, or of a transaction's own steps.
use Rattle.std.proofs.Common.{◌≡◌, ℕ, ◌+◌, Bool, true, false, cond, List, [], ◌∷◌, ◌++◌, length, map, reverse, Option, Some, None}
use Rattle.std.{proofs.Common.{refl, sym, ap, subst, ◌∙◌, append_assoc, add-one}, specs.Prelude.{slice_get}}
use Rattle.std.specs.List.{AllByRecursion, flat_map, list_any, Sorted.{IsStrictlySortedBy}}
use Rattle.std.proofs.lemmas.{List.{append-nil, reverse-append, reverse-reverse, length-reverse}, Grind.{flat_map-append}}
use Rattle.title_land.specs.{Depth.{depth}, declared.{node.Node.{Node}, tract.Land.{Land}}, Lands.{cover_of, meets, IsLand}}
use Rattle.title_store.specs.Laws.Each.{each_from, each_append}
use Rattle.title_chain.specs.declared.ask.{Ask.{Ask}, Answer.{Answer}, Entry.{Entry}, Posting.{Posting}, Step.{Step}}
use Rattle.title_chain.specs.{declared.{filing.Filing.{Filing}, record.Record.{Record}, spot.Spot.{Spot}}, Chains.{record_entries}}
use Rattle.title_chain.specs.{StepEntries.{entry_of, step_entries}, SpotMaps.{spot_cmp}, TractIndexes.{IsFiled, is_near}}
use Rattle.title_chain.proofs.{Nearness.{near_meets}, SpotOrder.{Ascend, steps_ascend, records_ascend, keys_are}}
use Rattle.title_chain.specs.PostSpots.{FiledPost, post_of, posting_of, spot_at, step_posts, record_posts, posts_where, spots_where}
use Rattle.title_chain.specs.PostSpots.{is_listed, step_entry, posted, entry_in, entry_at, own_entry_at}
use Rattle.title_chain.specs.declared.ask.Ask.TheVariants as ask
use Rattle.title_chain.specs.declared.ask.Answer.TheVariants as answer

-- the entry of a post, with a record's number
abbrev pub whole_entry : ℕ → FiledPost → List Entry
whole_entry n x = record { place = n; posting = x.posting } ∷ []

-- the entry that a post gives to the chain of a tract, with the number that its record's index is given
abbrev pub post_entry : (ℕ → ℕ) → Land → FiledPost → List Entry
post_entry number land x = cond (meets land x.posting.tract) (whole_entry (number x.spot.record) x) []

-- those of these posts
abbrev pub post_entries : (ℕ → ℕ) → Land → List FiledPost → List Entry
post_entries number land posts = flat_map (post_entry number land) posts

one_entry : (number : ℕ → ℕ) (land : Land) (i j : ℕ) (a : Ask) (given : Answer)
    → post_entries number land (post_of (spot_at i j) (posting_of a given)) ≡ entry_of (number i) land a given
one_entry number land i j (ask.Post p) answer.Posted = append-nil _
one_entry number land i j a given = refl

steps_entries : (number : ℕ → ℕ) (land : Land) (i : ℕ) (steps : List Step)
    → post_entries number land (step_posts i steps) ≡ step_entries (number i) land steps
steps_entries number land i [] = refl
steps_entries number land i (s ∷ earlier) =
    flat_map-append (post_entry number land) (step_posts i earlier) (post_of (spot_at i (length earlier)) (posting_of s.ask s.answer))
    ∙ (let before = steps_entries number land i earlier in let here = one_entry number land i (length earlier) s.ask s.answer in cc)

-- records are numbered from 1, and the steps of an open transaction have place 0
abbrev from_one : ℕ → ℕ
from_one i = i + 1

abbrev own_place : ℕ → ℕ
own_place i = 0

records_entries : (land : Land) (records : List Record) → post_entries from_one land (record_posts records) ≡ record_entries land records
records_entries land [] = refl
records_entries land (r ∷ older) =
    flat_map-append (post_entry from_one land) (record_posts older) (step_posts (length older) (reverse r.steps))
    ∙ (let before = records_entries land older in
    let here = steps_entries from_one land (length older) (reverse r.steps)
    ∙ ap (λ (n : ℕ). step_entries n land (reverse r.steps)) (add-one (length older)) in
    cc)

seam : {A : Type 0} (xs : List A) (y : A) (ys : List A) → slice_get (xs ++ y ∷ ys) (length xs) ≡ Some y
seam [] y ys = refl
seam (x ∷ xs) y ys = seam xs y ys

back_seam : {A : Type 0} (xs : List A) (y : A) (ys : List A) → slice_get (reverse xs ++ y ∷ ys) (length xs) ≡ Some y
back_seam {A} xs y ys = ap (slice_get (reverse xs ++ y ∷ ys)) (sym (length-reverse xs)) ∙ seam (reverse xs) y ys

back_more : {A : Type 0} (xs : List A) (y : A) (ys : List A) → reverse (y ∷ xs) ++ ys ≡ reverse xs ++ y ∷ ys
back_more {A} xs y ys = ap (λ (zs : List A). zs ++ ys) (reverse-append (y ∷ []) xs) ∙ append_assoc (reverse xs) (y ∷ []) ys

twice : {A : Type 0} (xs : List A) → reverse (reverse xs) ++ [] ≡ xs
twice xs = append-nil (reverse (reverse xs)) ∙ reverse-reverse xs

-- the post is that of a step of the record at an index, among these steps, which have the oldest first: its entry is the post's
abbrev pub IsStepOf : ℕ → List Step → FiledPost → Type 0
IsStepOf i steps x = (x.spot.record ≡ i) × ((n : ℕ) → step_entry n (slice_get steps x.spot.step) ≡ whole_entry n x)

one_step : (steps : List Step) (i j : ℕ) (s : Step) (o : Option Posting) → posting_of s.ask s.answer ≡ o → slice_get steps j ≡ Some s
    → AllByRecursion (IsStepOf i steps) (post_of (spot_at i j) o)
one_step steps i j s None posts is = tt
one_step steps i j s (Some p) posts is = ((refl, λ n. ap (step_entry n) is ∙ ap (posted n) posts), tt)

steps_found : (i : ℕ) (steps later : List Step) → AllByRecursion (IsStepOf i (reverse steps ++ later)) (step_posts i steps)
steps_found i [] later = tt
steps_found i (s ∷ earlier) later =
    let one = posting_of s.ask s.answer in
    subst (λ (all : List Step). AllByRecursion (IsStepOf i all) (step_posts i (s ∷ earlier))) (sym (back_more earlier s later))
    (each_append (IsStepOf i (reverse earlier ++ s ∷ later)) (step_posts i earlier) (post_of (spot_at i (length earlier)) one)
    (steps_found i earlier (s ∷ later))
    (one_step (reverse earlier ++ s ∷ later) i (length earlier) s one refl (back_seam earlier s later)))

-- so it is of steps that have the oldest first
each_step : (i : ℕ) (steps : List Step) → AllByRecursion (IsStepOf i steps) (step_posts i (reverse steps))
each_step i steps = subst (λ (all : List Step). AllByRecursion (IsStepOf i all) (step_posts i (reverse steps))) (twice steps)
    (steps_found i (reverse steps) [])

-- the step at the spot of the post of these records, which have the oldest first, gives the post's entry
abbrev pub GivesEntry : List Record → FiledPost → Type 0
GivesEntry records x = entry_at records x.spot ≡ whole_entry (x.spot.record + 1) x

record_found : (i : ℕ) (records : List Record) (r : Record) → slice_get records i ≡ Some r
    → AllByRecursion (GivesEntry records) (step_posts i (reverse r.steps))
record_found i records r is = each_from (IsStepOf i r.steps) (GivesEntry records) (step_posts i (reverse r.steps))
    (λ x h. ap (entry_in (x.spot.record + 1) x.spot.step) (ap (slice_get records) h.0 ∙ is) ∙ h.1 (x.spot.record + 1)) (each_step i r.steps)

records_found : (records later : List Record) → AllByRecursion (GivesEntry (reverse records ++ later)) (record_posts records)
records_found [] later = tt
records_found (r ∷ older) later =
    subst (λ (all : List Record). AllByRecursion (GivesEntry all) (record_posts (r ∷ older))) (sym (back_more older r later))
    (each_append (GivesEntry (reverse older ++ r ∷ later)) (record_posts older) (step_posts (length older) (reverse r.steps))
    (records_found older (r ∷ later))
    (record_found (length older) (reverse older ++ r ∷ later) r (back_seam older r later)))

-- at the post's spot stands its entry
abbrev IsAt : (ℕ → ℕ) → (Spot → List Entry) → FiledPost → Type 0
IsAt number at x = at x.spot ≡ whole_entry (number x.spot.record) x

-- the spots of the posts that share a cell give the entries of all: the others have none
where_entries : (number : ℕ → ℕ) (land : Land) (at : Spot → List Entry) (posts : List FiledPost) → AllByRecursion (IsAt number at) posts →
    flat_map at (spots_where (meets land) posts) ≡ post_entries number land posts
where_entries number land at [] h = refl
where_entries number land at (x ∷ posts) h = go (meets land x.posting.tract) (where_entries number land at posts h.1)
  where
    at_spots : List FiledPost → List Entry
    at_spots xs = flat_map at (map (λ y. y.spot) xs)

    go : (b : Bool) → at_spots (posts_where (meets land) posts) ≡ post_entries number land posts →
        at_spots (cond b (x ∷ posts_where (meets land) posts) (posts_where (meets land) posts))
        ≡ cond b (whole_entry (number x.spot.record) x) [] ++ post_entries number land posts
    go true rest = λ i. h.0 i ++ rest i
    go false rest = rest

-- spots that were found near the nodes of a tract's cover, and put in order
module _ (f : Filing) (land : Land) (cover : List Node) (found : List Spot) (covered : cover ≡ cover_of depth land)
    (sized : IsLand depth land) (ordered : IsStrictlySortedBy spot_cmp found)
    (near : (p : Spot) → is_listed p found ≡ list_any (is_near f p) cover) where
  -- they are those of the posts that share a cell with it, if these were filed
  found_are : (posts : List FiledPost) → Ascend posts → IsFiled depth f posts → found ≡ spots_where (meets land) posts
  found_are posts ascend filed = keys_are found posts (meets land) ordered ascend
      (λ p. near p ∙ ap (λ (nodes : List Node). list_any (is_near f p) nodes) covered ∙ near_meets f posts filed land sized p)

  -- the entries there are those of the records
  pub spot_entries : (records : List Record) → IsFiled depth f (record_posts (reverse records))
      → flat_map (entry_at records) found ≡ record_entries land (reverse records)
  spot_entries records filed =
      let newest : List Record = reverse records in
      let posts : List FiledPost = record_posts newest in
      ap (flat_map (entry_at records)) (found_are posts (records_ascend newest) filed)
      ∙ where_entries from_one land (entry_at records) posts
      (subst (λ (items : List Record). AllByRecursion (GivesEntry items) posts) (twice records) (records_found newest []))
      ∙ records_entries land newest

  -- or those of a transaction's own steps
  pub own_entries : (steps : List Step) → IsFiled depth f (step_posts 0 (reverse steps))
      → flat_map (own_entry_at steps) found ≡ step_entries 0 land (reverse steps)
  own_entries steps filed =
      let newest : List Step = reverse steps in
      let posts : List FiledPost = step_posts 0 newest in
      ap (flat_map (own_entry_at steps)) (found_are posts (steps_ascend 0 newest) filed)
      ∙ where_entries own_place land (own_entry_at steps) posts
      (each_from (IsStepOf 0 steps) (IsAt own_place (own_entry_at steps)) posts (λ x h. h.1 0) (each_step 0 steps))
      ∙ steps_entries own_place land 0 newest
