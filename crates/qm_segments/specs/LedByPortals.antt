use Rattle.std.specs.Prelude.{◌≢◌, ℕ, List, ◌∷◌, map}
use Rattle.std.specs.List.{All, AllPairs}
use Rattle.qm_partition.specs.Tree.{Tree}
use Rattle.qm_partition.specs.LeafOfPoint.{leaf_at}
use Rattle.qm_contacts.specs.Portals.{Portal}
use Rattle.qm_segments.specs.Segment.{Segment}
use Rattle.qm_segments.specs.LeafNumber.{IsNumberOf}
use Rattle.qm_segments.specs.GoesBy.{GoesBy}
use Rattle.qm_segments.specs.Sight.{IsInSight}

-- the segment goes by portals from its first leaf to its last, enters no leaf twice, its first one included, and shows its
-- last leaf from each of these portals
pub record IsLedByPortals (tree : Tree) (portals : List Portal) (s : Segment) : Type 0 where
  pub from : ℕ
  pub to : ℕ
  pub chain : List Portal
  pub from_is : IsNumberOf tree from (leaf_at tree.planes tree.shape s.from)
  pub to_is : IsNumberOf tree to (leaf_at tree.planes tree.shape s.to)
  pub goes : GoesBy portals s s.from from chain to
  pub once : AllPairs (λ a b. a ≢ b) (from ∷ map (λ q. q.to) chain)
  pub sight : All (λ q. IsInSight tree q to) chain
