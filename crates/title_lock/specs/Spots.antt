-- Nodes by their numbers.
use Rattle.std.{specs.Prelude.{ℕ, ◌≡◌}, proofs.{Common.{sym, ◌∙◌, ap, subst}, Math.Nat.{ℕ_set}}}
use Rattle.title_land.specs.{declared.node.Node.{Node}, NodeNumbers.{node_number}, Laws.NodeNumbers.{numbers_tell_nodes}}

-- a node has this number
pub record IsNumber (k : ℕ) : Type 0 where
  pub node : Node
  pub numbered : k ≡ node_number node

abbrev number_of : {k : ℕ} (n : Node) → k ≡ node_number n → IsNumber k
number_of n h = record { node = n; numbered = h }

-- it has it in one way
pub number_prop : (k : ℕ) → IsProp (IsNumber k)
number_prop k a b = subst (λ (m : Node). (h : k ≡ node_number m) → number_of a.node a.numbered ≡ number_of m h)
    (numbers_tell_nodes a.node b.node (sym a.numbered ∙ b.numbered))
    (λ h. ap (λ (z : k ≡ node_number a.node). number_of a.node z) (ℕ_set k (node_number a.node) a.numbered h)) b.numbered
