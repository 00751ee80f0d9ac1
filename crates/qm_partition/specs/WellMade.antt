use Rattle.std.specs.Prelude.{◌≡◌, ◌<◌, ◌^◌, List, length, All, IsTrue}
use Rattle.qm_contents.specs.declared.contents.Contents.TheVariants.{Solid}
use Rattle.qm_space.specs.Plane.{Plane}
use Rattle.qm_space.specs.Reduced.{leads_positive}
use Rattle.qm_partition.specs.declared.node.Node.{Node}
use Rattle.qm_partition.specs.declared.node.Leaf.{Leaf}
use Rattle.qm_partition.specs.Tree.{Tree, NamesItsPlanes}
use Rattle.qm_partition.specs.Counting.{leaves_of}
use Rattle.qm_partition.specs.Numbering.{AreNumbered}

-- a leaf that is solid where it is filled
abbrev pub IsSolidIfFilled : Leaf → Type 0
IsSolidIfFilled found = IsTrue found.filled → found.contents ≡ Solid

-- what each tree in code keeps: its planes have numbers of 32 bits, each leads with a positive component, its nodes name
-- planes that are there, and a filled leaf is solid
pub record IsWellMade (tree : Tree) : Type 0 where
  pub few : length tree.planes < 2 ^ 32
  pub leads : All (λ h. IsTrue (leads_positive h)) tree.planes
  pub names : NamesItsPlanes tree
  pub solid : All IsSolidIfFilled (leaves_of tree.shape)

-- a well made tree of these planes, numbered nodes and numbered leaves
pub record IsMadeOf (tree : Tree) (planes : List Plane) (nodes : List Node) (leaves : List Leaf) : Type 0 where
  pub planes_are : planes ≡ tree.planes
  pub numbered : AreNumbered tree.shape nodes leaves
  pub well_made : IsWellMade tree
