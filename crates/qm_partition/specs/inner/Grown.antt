use Rattle.std.specs.Prelude.{◌≡◌, List, [], ◌∷◌, ◌++◌, Option, Some, None, refl}
use Rattle.std.proofs.Common.{ap, ◌∙◌}
use Rattle.qm_partition.specs.declared.visit.Visit.{Visit}
use Rattle.qm_partition.specs.declared.visit.Visit.TheVariants.{Node, Leaf}
use Rattle.qm_partition.specs.Partition.{Partition, leaf, node}
use Rattle.qm_partition.specs.Visits.{visits}

-- The partition of visits. They are gone through from the last one to the first: a node takes the first two partitions
-- that are there.

-- one visit more; none where a node finds fewer than two partitions
abbrev pub grown_by : Visit → Option (List Partition) → Option (List Partition)
grown_by visit None = None
grown_by (Leaf found) (Some grown) = Some (leaf found ∷ grown)
grown_by (Node n) (Some []) = None
grown_by (Node n) (Some (only ∷ [])) = None
grown_by (Node n) (Some (front ∷ (back ∷ grown))) = Some (node n front back ∷ grown)

-- all of these visits, in front of the partitions that are there
abbrev pub grown_from : List Visit → Option (List Partition) → Option (List Partition)
grown_from [] grown = grown
grown_from (visit ∷ walk) grown = grown_by visit (grown_from walk grown)

pub grown_from-append : (walk walk' : List Visit) (grown : Option (List Partition)) → grown_from (walk ++ walk') grown ≡ grown_from walk (grown_from walk' grown)
grown_from-append [] walk' grown = refl
grown_from-append (visit ∷ walk) walk' grown = ap (grown_by visit) (grown_from-append walk walk' grown)

-- the visits of a partition give it
pub grown_from-visits : (shape : Partition) (grown : List Partition) → grown_from (visits shape) (Some grown) ≡ Some (shape ∷ grown)
grown_from-visits (leaf found) grown = refl
grown_from-visits (node n front back) grown =
    ap (grown_by (Node n)) (
    grown_from-append (visits front) (visits back) (Some grown)
    ∙ ap (grown_from (visits front)) (grown_from-visits back grown)
    ∙ grown_from-visits front (back ∷ grown))
