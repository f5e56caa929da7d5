-- Spots of posts in a list of records. Lists of steps and of records here have the newest first, lists of posts and of
-- spots the oldest.
use Rattle.std.specs.Prelude.{ℕ, ◌+◌, Bool, ◌&&◌, ◌==◌, List, [], ◌∷◌, ◌++◌, length, map, reverse, Option, Some, None, slice_get}
use Rattle.std.specs.List.{filter, list_any}
use Rattle.title_land.specs.declared.tract.Land.{Land}
use Rattle.title_chain.specs.declared.{ask.{Ask.{Ask}, Answer.{Answer}, Entry.{Entry}, Posting.{Posting}, Step.{Step}}, spot.Spot.{Spot}}
use Rattle.title_chain.specs.declared.record.Record.{Record}
use Rattle.title_chain.specs.declared.ask.Ask.TheVariants as ask
use Rattle.title_chain.specs.declared.ask.Answer.TheVariants as answer

-- a posted instrument with the spot of its step
pub record FiledPost : Type 0 where
  pub spot : Spot
  pub posting : Posting

-- what a step posted, if it was a post and was done
abbrev pub posting_of : Ask → Answer → Option Posting
posting_of (ask.Post p) answer.Posted = Some p
posting_of a given = None

-- the post at a spot, if there is one
abbrev pub post_of : Spot → Option Posting → List FiledPost
post_of spot None = []
post_of spot (Some p) = record { spot = spot; posting = p } ∷ []

-- the spot of a step in a record, each by its index from 0
abbrev pub spot_at : ℕ → ℕ → Spot
spot_at i j = record { «record» = i; step = j }

-- the posts of these steps of the record at an index
abbrev pub step_posts : ℕ → List Step → List FiledPost
step_posts i [] = []
step_posts i (s ∷ earlier) = step_posts i earlier ++ post_of (spot_at i (length earlier)) (posting_of s.ask s.answer)

-- the posts of these records
abbrev pub record_posts : List Record → List FiledPost
record_posts [] = []
record_posts (r ∷ older) = record_posts older ++ step_posts (length older) (reverse r.steps)

-- the posts of such lands, and their spots
abbrev pub posts_where : (Land → Bool) → List FiledPost → List FiledPost
posts_where test posts = filter (λ x. test x.posting.tract) posts

abbrev pub spots_where : (Land → Bool) → List FiledPost → List Spot
spots_where test posts = map (λ x. x.spot) (posts_where test posts)

-- two spots are one
abbrev pub same_spot : Spot → Spot → Bool
same_spot a b = a.record == b.record && a.step == b.step

-- the spot stands among these
abbrev pub is_listed : Spot → List Spot → Bool
is_listed p spots = list_any (same_spot p) spots

-- the spot is that of one of these posts, of such a land
abbrev pub is_spot_where : (Land → Bool) → List FiledPost → Spot → Bool
is_spot_where test posts p = list_any (λ x. same_spot p x.spot && test x.posting.tract) posts

-- the entry of what was posted, with this place
abbrev pub posted : ℕ → Option Posting → List Entry
posted n None = []
posted n (Some p) = record { place = n; posting = p } ∷ []

-- the entry of a step, if there is one
abbrev pub step_entry : ℕ → Option Step → List Entry
step_entry n None = []
step_entry n (Some s) = posted n (posting_of s.ask s.answer)

-- the entry of the step at an index of a record, if there is one
abbrev pub entry_in : ℕ → ℕ → Option Record → List Entry
entry_in n j None = []
entry_in n j (Some r) = step_entry n (slice_get r.steps j)

-- the entry of the step at a spot of records, which have the oldest first here, with its record's number from 1
abbrev pub entry_at : List Record → Spot → List Entry
entry_at records p = entry_in (p.record + 1) p.step (slice_get records p.record)

-- the entry of the step at a spot of a transaction's own steps, which have the oldest first here, with place 0
abbrev pub own_entry_at : List Step → Spot → List Entry
own_entry_at steps p = step_entry 0 (slice_get steps p.step)
