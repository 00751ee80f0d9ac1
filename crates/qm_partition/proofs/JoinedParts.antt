-- What joining keeps: what holds of each leaf, and that the tree is well made.
use Rattle.std.proofs.Common.{◌≡◌, ◌<◌, length, ℕ, Bool, true, false, if◌then◌else◌, List, [], ◌∷◌, ◌++◌, All, sym, ap, ◌∙◌}
use Rattle.std.proofs.lemmas.List.{append-nil}
use Rattle.std.proofs.lemmas.List.Elements.{All-append}
use Rattle.qm_lists.proofs.Elements.{All-first_part, All-last_part}
use Rattle.qm_space.specs.Plane.{Plane}
use Rattle.qm_partition.specs.declared.node.Leaf.{Leaf as LeafRecord}
use Rattle.qm_partition.specs.declared.visit.Visit.{Visit}
use Rattle.qm_partition.specs.Partition.{Partition, leaf, node}
use Rattle.qm_partition.specs.Counting.{leaves_of}
use Rattle.qm_partition.specs.Joining.{have_same_contents, joined_node, joined}
use Rattle.qm_partition.specs.Visits.{visits}
use Rattle.qm_partition.specs.WellMade.{IsSolidIfFilled, IsWellMade}
use Rattle.qm_partition.specs.inner.JoinedWalk.{joined_from}
use Rattle.qm_partition.proofs.JoinedCells.{joined_node_planes}
use Rattle.qm_partition.proofs.JoinedWalks.{joined_from-visits}

module _ (P : LeafRecord → Type 0) where
  one_of_two : (n : ℕ) (a b : LeafRecord) (test : Bool) → All P (a ∷ []) → All P (b ∷ []) → All P (leaves_of (if test then leaf a else node n (leaf a) (leaf b)))
  one_of_two n a b true of_a of_b = of_a
  one_of_two n a b false of_a of_b = All-append P (a ∷ []) (b ∷ []) of_a of_b

  leaves_of_joined_node : (n : ℕ) (front back : Partition) → All P (leaves_of front) → All P (leaves_of back) → All P (leaves_of (joined_node n front back))
  leaves_of_joined_node n (leaf a) (leaf b) in_front behind = one_of_two n a b (have_same_contents a b) in_front behind
  leaves_of_joined_node n (leaf a) (node m front back) in_front behind = All-append P (a ∷ []) (leaves_of front ++ leaves_of back) in_front behind
  leaves_of_joined_node n (node m front back) beyond in_front behind = All-append P (leaves_of front ++ leaves_of back) (leaves_of beyond) in_front behind

  -- each leaf of the joined partition is one of the partition
  pub leaves_of-joined : (shape : Partition) → All P (leaves_of shape) → All P (leaves_of (joined shape))
  leaves_of-joined (leaf found) each = each
  leaves_of-joined (node n front back) each =
      leaves_of_joined_node n (joined front) (joined back)
      (leaves_of-joined front (All-first_part P (leaves_of front) (leaves_of back) each))
      (leaves_of-joined back (All-last_part P (leaves_of front) (leaves_of back) each))

pub joined_well_made : (planes : List Plane) (shape : Partition) → IsWellMade (record { planes = planes; shape = shape }) → IsWellMade (record { planes = planes; shape = joined shape })
joined_well_made planes shape well =
    record {
      few = well.few;
      leads = well.leads;
      names = joined_node_planes (λ n. n < length planes) shape well.names;
      solid = leaves_of-joined IsSolidIfFilled shape well.solid;
    }

-- ---- by visits

pub joined_from-all : (shape : Partition) (walk : List Visit) → visits shape ≡ walk → joined_from walk [] ≡ visits (joined shape)
joined_from-all shape walk is = ap (λ (walk : List Visit). joined_from walk []) (sym is) ∙ joined_from-visits shape [] ∙ append-nil (visits (joined shape))
