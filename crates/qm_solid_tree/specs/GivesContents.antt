use Rattle.std.specs.Prelude.{◌⊎◌, IsTrue, List, All}
use Rattle.qm_space.specs.Point.{Point, IsInCube}
use Rattle.qm_space.specs.Reduced.{HasNormal}
use Rattle.qm_solids.specs.Solid.{Solid}
use Rattle.qm_solids.specs.Contents.{HasContents}
use Rattle.qm_partition.specs.declared.node.Leaf.{Leaf}
use Rattle.qm_partition.specs.Tree.{Tree, NamesItsPlanes}
use Rattle.qm_partition.specs.LeafOfPoint.{leaf_record_at, IsOffNodePlanes}

-- a tree leads points to leaves: each node names one of the planes, and each plane has a normal, since else no point would be
-- off the node planes; and what has to hold of a point and its leaf holds of each point inside the cube that is on no node plane
pub record LeadsPoints (tree : Tree) (Stands : Point → Leaf → Type 0) : Type 0 where
  pub named : NamesItsPlanes tree
  pub normals : All HasNormal tree.planes
  pub gives : (x : Point) → IsInCube x → IsOffNodePlanes tree.planes tree.shape x → Stands x (leaf_record_at tree.planes tree.shape x)

-- the leaf has the contents that the solids define at the point
abbrev pub GivesContents : Tree → List Solid → Type 0
GivesContents tree solids = LeadsPoints tree (λ x leaf. HasContents solids x leaf.contents)

-- the same, but a point may also be led to a filled leaf
abbrev pub GivesContentsOrIsFilled : Tree → List Solid → Type 0
GivesContentsOrIsFilled tree solids = LeadsPoints tree (λ x leaf. IsTrue leaf.filled ⊎ HasContents solids x leaf.contents)
