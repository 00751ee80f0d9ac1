-- The portals of a marked tree lead each line of sight from its first leaf to its last.
use Rattle.std.proofs.Common.{◌≡◌, ℕ, Bool, List}
use Rattle.qm_lists.specs.WorkList.{IsIn}
use Rattle.qm_space.specs.Point.{Point, IsInCube}
use Rattle.qm_contents.specs.declared.contents.Contents.{Contents}
use Rattle.qm_partition.specs.Tree.{Tree}
use Rattle.qm_partition.specs.LeafOfPoint.{leaf_record_at, IsOffNodePlanes}
use Rattle.qm_partition.specs.Marked.{marked_tree}
use Rattle.qm_partition.specs.Ways.{HasPoints}
use Rattle.qm_contacts.specs.Meeting.{meetings}
use Rattle.qm_contacts.specs.Touching.{Touching, AreTouchings}
use Rattle.qm_contacts.specs.Portals.{portals_of}
use Rattle.qm_contacts.specs.PortalChain.{IsPortalBetween}
use Rattle.qm_segments.specs.Segment.{Segment}
use Rattle.qm_segments.specs.Ends.{IsLineOfSight}
use Rattle.qm_segments.specs.LedByPortals.{IsLedByPortals}
use Rattle.qm_segments.proofs.SegmentLaw.{is_led_by_portals}
use Rattle.qm_segments.proofs.MarkedSegments.{marked_points, marked_touchings, marked_clear}

module _ (row : List Bool) (tree : Tree) (have : HasPoints tree) (closed : (a b : ℕ) → IsPortalBetween tree a b → IsIn row a → IsIn row b) (has : Point → Contents → Type 0) (gives : (x : Point) → IsInCube x → IsOffNodePlanes tree.planes tree.shape x → has x (leaf_record_at tree.planes tree.shape x).contents) (single : (x : Point) (c d : Contents) → has x c → has x d → c ≡ d) (touchings : List Touching) (are : AreTouchings tree.planes (meetings tree) touchings) where
  pub lines_are_led : (s : Segment) → IsLineOfSight has (marked_tree row tree) s → IsLedByPortals (marked_tree row tree) (portals_of (marked_tree row tree) touchings) s
  lines_are_led s is =
      is_led_by_portals (marked_tree row tree) (marked_points row tree have) touchings (marked_touchings row tree touchings are) s is.generic is.contents is.not_solid
      (marked_clear row tree have closed has gives single s is.contents is.not_solid is.generic is.clear is.not_filled)
