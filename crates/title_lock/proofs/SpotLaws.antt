-- What a node's number tells of it.
use Rattle.std.proofs.Common.{◌≡◌, ℕ, sym, ◌∙◌}
use Rattle.title_land.specs.{declared.node.Node.{Node}, NodeNumbers.{node_number}, Laws.NodeNumbers.{numbers_tell_nodes}}
use Rattle.title_lock.specs.Spots.{IsNumber}

-- a node is told by its number
pub told : {k : ℕ} (s : IsNumber k) (n : Node) → k ≡ node_number n → s.node ≡ n
told s n h = numbers_tell_nodes s.node n (sym s.numbered ∙ h)
