-- What parts two windings, by their corners.
use Rattle.std.proofs.Common.{pos, inl, inr, ⊎_elim, ◌↔◌}
use Rattle.qm_numbers.proofs.Signs.{by_least}
use Rattle.qm_space.specs.Plane.{Plane, value}
use Rattle.qm_convex.specs.Winding.{Winding, corner_at}
use Rattle.qm_convex.specs.Sides.{HasCornerInFront, HasCornerBehind, HasNoCornerBehind}
use Rattle.qm_separators.specs.inner.Found.{Parts}

module _ (s p : Winding) (g : Plane) (none : HasCornerBehind p g → ⊥) where
  none_behind : HasNoCornerBehind p g
  none_behind i l = by_least (value g (corner_at p i)) (pos 0) (λ below. absurd (none (i, l, below))) (λ not. not)

  -- a corner of the pass in front is enough
  pub parts_in_front : HasCornerInFront p g → Parts s p g
  parts_in_front front = record { in_front = none_behind; strict = inr front }

  -- without one there has to be one of the source behind
  pub parts_behind : (HasCornerInFront p g → ⊥) → HasCornerBehind s g ↔ Parts s p g
  parts_behind not = ((λ behind. record { in_front = none_behind; strict = inl behind }), (λ parts. ⊎_elim (λ behind. behind) (λ front. absurd (not front)) parts.strict))
