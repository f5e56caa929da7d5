-- Records, and the steps of an open transaction, with an index of their posts by tract. Lists here have the oldest first.
use Rattle.std.specs.{Prelude.{ℕ, ◌≡◌, ◌≢◌, ◌≤◌, Bool, true, ◌||◌, List, length, take, reverse}, List.{AllByRecursion, list_any}}
use Rattle.title_land.specs.{declared.{node.Node.{Node}, tract.Land.{Land}}, Nodes.{same_node, above, is_above}, Lands.{cover_of, IsLand}}
use Rattle.title_land.specs.NodeNumbers.{node_number, number_above}
use Rattle.title_chain.specs.declared.{ask.Step.{Step}, filing.Filing.{Filing}, spot.Spot.{Spot}, record.Record.{Record}}
use Rattle.title_chain.specs.{PostSpots.{FiledPost, step_posts, record_posts, is_listed, is_spot_where}, SpotMaps.{spots_under}}

-- the records in the order of their commits, and whether one more can be added without memory
pub record Recorded : Type 0 where
  pub records : List Record
  pub has_room : Bool

-- the steps of an open transaction, and whether one more can be added without memory
pub record Owned : Type 0 where
  pub steps : List Step
  pub has_room : Bool

-- the node is one of the land's cover
abbrev pub covers : ℕ → Node → Land → Bool
covers depth n l = list_any (same_node n) (cover_of depth l)

-- the land's cover has a node below this one
abbrev pub covers_below : ℕ → Node → Land → Bool
covers_below depth n l = list_any (is_above n) (cover_of depth l)

-- the spots of these posts are filed under the nodes of their covers, and under all nodes above those; their sets of
-- cells are as large as the grid
pub record IsFiled (depth : ℕ) (f : Filing) (posts : List FiledPost) : Type 0 where
  pub at : (n : Node) (p : Spot) → is_listed p (spots_under f.at n) ≡ is_spot_where (covers depth n) posts p
  pub below : (n : Node) (p : Spot) → is_listed p (spots_under f.below n) ≡ is_spot_where (covers_below depth n) posts p
  pub sized : AllByRecursion (λ x. IsLand depth x.posting.tract) posts

-- the posts of the first records are filed, as many as were read
pub record IsReadFrom (depth : ℕ) (f : Filing) (records : List Record) : Type 0 where
  pub within : f.read ≤ length records
  pub filed : IsFiled depth f (record_posts (reverse (take f.read records)))

-- the posts of the first steps of an open transaction are filed as those of the record at index 0, as many as were read
pub record AreReadFrom (depth : ℕ) (f : Filing) (steps : List Step) : Type 0 where
  pub within : f.read ≤ length steps
  pub filed : IsFiled depth f (step_posts 0 (reverse (take f.read steps)))

-- the place is filed at a node above this one
abbrev pub is_higher : Filing → Spot → Node → Bool
is_higher f p n = list_any (λ a. is_listed p (spots_under f.at a)) (above n)

-- the spot is filed at the node, below it, or at a node above it
abbrev pub is_near : Filing → Spot → Node → Bool
is_near f p n = is_listed p (spots_under f.at n) || (is_listed p (spots_under f.below n) || is_higher f p n)

-- what is filed above the nodes below the one with this number stands among these places, unless that is the whole plant
abbrev pub KnowsAbove : Filing → ℕ → List Spot → Type 0
KnowsAbove f k places = k ≢ 0 → (c : Node) → number_above (node_number c) ≡ k → (p : Spot) → is_higher f p c ≡ true
    → is_listed p places ≡ true
