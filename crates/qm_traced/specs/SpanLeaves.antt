use Rattle.std.specs.Prelude.{◌≡◌, ◌⊎◌, IsTrue, List, Some, Contains, slice_get}
use Rattle.qm_contents.specs.declared.contents.Contents.TheVariants.{Solid}
use Rattle.qm_space.specs.Point.{Point}
use Rattle.qm_solids.specs.Solid.{Solid as SolidRecord}
use Rattle.qm_solids.specs.Contents.{HasContents}
use Rattle.qm_partition.specs.declared.node.Leaf.{Leaf}
use Rattle.qm_partition.specs.Tree.{Tree}
use Rattle.qm_partition.specs.Counting.{leaves_of}
use Rattle.qm_spans.specs.declared.span.Span.{Span}

-- the leaf of a span is filled, or has the contents that the solids define at a point
pub record TellsContents (tree : Tree) (solids : List SolidRecord) (span : Span) (x : Point) : Type 0 where
  pub found : Leaf
  pub leaf_is : slice_get (leaves_of tree.shape) span.leaf ≡ Some found
  pub contents : IsTrue found.filled ⊎ HasContents solids x found.contents

-- the leaf of some span is solid
pub record HasSolidSpan (tree : Tree) (spans : List Span) : Type 0 where
  pub span : Span
  pub listed : Contains spans span
  pub found : Leaf
  pub leaf_is : slice_get (leaves_of tree.shape) span.leaf ≡ Some found
  pub solid : found.contents ≡ Solid
