-- Which portal may follow another, by points in place of corners.
use Rattle.std.proofs.Common.{◌↔◌}
use Rattle.qm_convex.specs.Winding.{IsConvex}
use Rattle.qm_convex.specs.Sides.{HasSomeInFront}
use Rattle.qm_convex.proofs.Central.{HasSomeBehind, some_in_front, some_behind}
use Rattle.qm_contacts.specs.Portals.{Portal}
use Rattle.qm_coarse_rows.specs.CoarseRow.{MayFollow}

-- a portal may follow another exactly where it has a point in front of the other's turned plane, and the other a point
-- behind its own
pub follows_by_points : (p q : Portal) → IsConvex p.winding → IsConvex q.winding → MayFollow p q ↔ (HasSomeInFront q.winding p.into × HasSomeBehind p.winding q.into)
follows_by_points p q p_convex q_convex = (
  (λ follows. ((some_in_front q.winding p.into q_convex).1 follows.in_front, (some_behind p.winding q.into p_convex).1 follows.behind)),
  (λ points. record { in_front = (some_in_front q.winding p.into q_convex).0 points.0; behind = (some_behind p.winding q.into p_convex).0 points.1 }),
)
