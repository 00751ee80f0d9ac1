use Rattle.std.specs.Prelude.{ℕ, List, [], ◌∷◌, Option, Some, None, drop, if◌then◌else◌}
use Rattle.qm_partition.specs.declared.node.Leaf.{Leaf as LeafRecord}
use Rattle.qm_partition.specs.declared.visit.Visit.{Visit}
use Rattle.qm_partition.specs.declared.visit.Visit.TheVariants.{Node, Leaf}
use Rattle.qm_partition.specs.Joining.{have_same_contents}

-- Joining visits. They are gone through from the last one to the first: where the next two are leaves of equal contents, a
-- node has them as its sides, and they become one leaf.

-- the leaf that the first two visits become, where they are leaves of equal contents
abbrev pub joint_of : List Visit → Option LeafRecord
joint_of [] = None
joint_of (Node n ∷ walk) = None
joint_of (Leaf front ∷ []) = None
joint_of (Leaf front ∷ (Node n ∷ walk)) = None
joint_of (Leaf front ∷ (Leaf back ∷ walk)) = if have_same_contents front back then Some front else None

-- a node in front of visits, and what they become
abbrev pub node_joined : ℕ → List Visit → Option LeafRecord → List Visit
node_joined n walk None = Node n ∷ walk
node_joined n walk (Some joint) = Leaf joint ∷ drop 2 walk

-- one visit in front of joined ones
abbrev pub joined_by : Visit → List Visit → List Visit
joined_by (Leaf found) walk = Leaf found ∷ walk
joined_by (Node n) walk = node_joined n walk (joint_of walk)

-- visits in front of joined ones
abbrev pub joined_from : List Visit → List Visit → List Visit
joined_from [] joined = joined
joined_from (visit ∷ walk) joined = joined_by visit (joined_from walk joined)
