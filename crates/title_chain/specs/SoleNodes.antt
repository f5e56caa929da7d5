-- Tracts whose cover is one node.
use Rattle.std.specs.Prelude.{◌≡◌, ◌≢◌, [], ◌∷◌}
use Rattle.title_land.specs.{Depth.{depth}, declared.{node.Node.{Node}, tract.Land.{Land}}, Lands.{cover_of}}

-- the cover of a land is this node alone
pub record HasSoleNode (land : Land) (n : Node) : Type 0 where
  pub cover : cover_of depth land ≡ n ∷ []

-- the cover of a land is no node alone
pub record HasNoSoleNode (land : Land) : Type 0 where
  pub none : (n : Node) → cover_of depth land ≢ n ∷ []
