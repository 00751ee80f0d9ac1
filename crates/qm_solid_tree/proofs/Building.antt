-- How a tree is built: what a cell without a candidate becomes.
use Rattle.std.proofs.Common.{false, List, refl}
use Rattle.qm_space.specs.Plane.{Plane}
use Rattle.qm_contents.specs.declared.contents.Contents.{Contents}
use Rattle.qm_solids.specs.Solid.{Solid}
use Rattle.qm_solids.specs.Cells.{CellHasContents}
use Rattle.qm_partition.specs.Partition.{Partition, leaf}
use Rattle.qm_solid_tree.specs.Division.{HasNoCandidate, Divides, undivided}

-- a leaf of these contents
abbrev pub leaf_with : Contents → Partition
leaf_with contents = leaf (record { contents = contents; filled = false })

module _ (solids : List Solid) (book : List Plane) where
  pub leaf_divides : (cell : List Plane) (contents : Contents) → HasNoCandidate solids book cell → CellHasContents solids cell contents → Divides solids book cell (leaf_with contents)
  leaf_divides cell contents none has = undivided none has refl
