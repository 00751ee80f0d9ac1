use Rattle.std.specs.Prelude.{◌≡◌, List, ◌++◌, flat_map}
use Rattle.std.specs.List.{AllZip}
use Rattle.qm_partition.specs.declared.visit.Visit.{Visit}
use Rattle.qm_partition.specs.Partition.{Partition}
use Rattle.qm_partition.specs.Visits.{visits}

-- A walk is written visit by visit, while cells wait for theirs.

-- the walk of a partition that has a property
pub record IsWalk (Has : Partition → Type 0) (walk : List Visit) : Type 0 where
  pub shape : Partition
  pub has : Has shape
  pub visits_are : visits shape ≡ walk

-- whatever partitions the waiting cells have, what is written and then their visits is the walk of one that the root has
abbrev pub Completes : {Cell : Type 0} → (Cell → Partition → Type 0) → Cell → List Cell → List Visit → Type 0
Completes Has root waiting walk =
    (shapes : List Partition) → AllZip Has waiting shapes → IsWalk (Has root) (walk ++ flat_map visits shapes)
