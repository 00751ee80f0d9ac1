use Rattle.std.specs.Prelude.{ℕ, List, Contains, ◌↔◌}
use Rattle.std.specs.List.Sorted.{IsStrictlyIncreasing}
use Rattle.qm_solids.specs.Solid.{Solid, inward}
use Rattle.qm_partition.specs.Tree.{Tree}
use Rattle.qm_segments.specs.LeafNumber.{IsNumberOf}
use Rattle.qm_reach.specs.ReachedLeaves.{ReachesLeaf}

-- The leaves that a model touches: some point of the leaf is strictly inside one of its solids. A leaf that a solid meets
-- in a face alone is none of them.

-- by its place in the tree
pub record IsTouchedLeaf (tree : Tree) (solids : List Solid) (k : ℕ) : Type 0 where
  pub solid : Solid
  pub listed : Contains solids solid
  pub reached : ReachesLeaf tree (inward solid) k

-- by its number
pub record IsModelLeaf (tree : Tree) (solids : List Solid) (n : ℕ) : Type 0 where
  pub leaf : ℕ
  pub number : IsNumberOf tree n leaf
  pub touched : IsTouchedLeaf tree solids leaf

-- these are all of them, in ascending order
pub record AreModelLeaves (tree : Tree) (solids : List Solid) (leaves : List ℕ) : Type 0 where
  pub ascending : IsStrictlyIncreasing leaves
  pub are : (n : ℕ) → Contains leaves n ↔ IsModelLeaf tree solids n
