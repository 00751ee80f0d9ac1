-- What bringing the plane of three points to lowest terms says of the points.
use Rattle.std.proofs.Common.{◌≡◌, Bool, pos, Result, Ok, Err, Option, None, Some, ◌↔◌, refl, sym, subst, arith}
use Rattle.std.specs.Prelude.{IfOk}
use Rattle.std.proofs.lemmas.Int.{ints}
use Rattle.qm_space.specs.Point.{Point}
use Rattle.qm_space.specs.Plane.{Plane}
use Rattle.qm_space.specs.Cube.{IsInClosedCube}
use Rattle.qm_space.specs.Line.{AreOnOneLine}
use Rattle.qm_space.specs.Reduced.{HasNormal, HasNoNormal, HasSmallNormal}
use Rattle.qm_space.specs.ThreePoints.{outward_plane, spanned_plane, plane_through, IsPlaneThrough, IsPlaneTooFine}
use Rattle.qm_space.proofs.Lines.{HaveOneWeight}
use Rattle.qm_space.proofs.NormalSizes.{large_not_small}
use Rattle.qm_space.proofs.SpannedPlanes.{normal_in_space, in_space_has_normal}
use Rattle.qm_space.proofs.PlanesThroughPoints.{one_line_no_normal, no_normal_one_line, plane_through_is, by_normal}
use Rattle.qm_geom.specs.inner.Lowest.{IsLowestAnswer, IsLowestFault}
use Rattle.qm_geom.specs.declared.through_fault.ThroughFault.{ThroughFault}
use Rattle.qm_geom.specs.declared.through_fault.ThroughFault.TheVariants.{NoNormal, TooFine}

module _ (p0 p1 p2 : Point) (weights : HaveOneWeight p0 p1 p2) where
  some_weight : p1.w ≡ pos 0 → ⊥
  some_weight zero = let w = weights.weight in absurd (omega (arith, ints))

  -- the plane that they span has a normal where the one over their numerators has one
  spanned_off_line : HasNormal (spanned_plane p0 p1 p2) → AreOnOneLine p0 p1 p2 → ⊥
  spanned_off_line normal line =
      let none = one_line_no_normal p0 p1 p2 weights line in
      normal_in_space p1.w (outward_plane p0 p1 p2) normal none.0 none.1 none.2

  spanned_on_line : HasNoNormal (spanned_plane p0 p1 p2) → AreOnOneLine p0 p1 p2
  spanned_on_line none = by_normal (outward_plane p0 p1 p2)
      (λ normal. absurd (in_space_has_normal p1.w (outward_plane p0 p1 p2) some_weight normal none.0 none.1 none.2))
      (λ flat. no_normal_one_line p0 p1 p2 weights flat)

  pub through_value : (answer : Result (Plane × Bool) ThroughFault) → IsLowestAnswer (spanned_plane p0 p1 p2) answer → IfOk answer (λ r. r ≡ plane_through p0 p1 p2)
  unfolding plane_through
  through_value (Ok r) is = is.1
  through_value (Err fault) is = tt

  pub is_through : IsInClosedCube p1 → (answer : Result (Plane × Bool) ThroughFault) → IsLowestAnswer (spanned_plane p0 p1 p2) answer → IfOk answer (λ r. IsPlaneThrough p0 p1 p2 r.0 r.1)
  unfolding plane_through
  is_through inside (Ok r) is =
      subst (λ (s : Plane × Bool). IsPlaneThrough p0 p1 p2 s.0 s.1) (sym is.1)
      (plane_through_is p0 p1 p2 inside (normal_in_space p1.w (outward_plane p0 p1 p2) is.0) (subst (λ (s : Plane × Bool). HasSmallNormal s.0) is.1 is.2))
  is_through inside (Err fault) is = tt

  pub through_no_normal : (answer : Result (Plane × Bool) ThroughFault) → IsLowestAnswer (spanned_plane p0 p1 p2) answer → (answer ≡ Err NoNormal) ↔ AreOnOneLine p0 p1 p2
  through_no_normal (Ok r) is = ((λ e. cc), (λ line. absurd (spanned_off_line is.0 line)))
  through_no_normal (Err NoNormal) is = ((λ e. spanned_on_line is), (λ line. refl))
  through_no_normal (Err TooFine) is = ((λ e. cc), (λ line. absurd (spanned_off_line is.0 line)))

  -- where the fault alone is asked for
  pub fault_no_normal : (answer : Option ThroughFault) → IsLowestFault (spanned_plane p0 p1 p2) answer → (answer ≡ Some NoNormal) ↔ AreOnOneLine p0 p1 p2
  fault_no_normal None is = ((λ e. cc), (λ line. absurd (spanned_off_line is.0 line)))
  fault_no_normal (Some NoNormal) is = ((λ e. spanned_on_line is), (λ line. refl))
  fault_no_normal (Some TooFine) is = ((λ e. cc), (λ line. absurd (spanned_off_line is.0 line)))

  pub fault_too_fine : (answer : Option ThroughFault) → IsLowestFault (spanned_plane p0 p1 p2) answer → (answer ≡ Some TooFine) ↔ IsPlaneTooFine p0 p1 p2
  unfolding plane_through
  fault_too_fine None is = ((λ e. cc), (λ fine. absurd (large_not_small (plane_through p0 p1 p2).0 fine.large is.1)))
  fault_too_fine (Some NoNormal) is = ((λ e. cc), (λ fine. absurd (fine.apart (spanned_on_line is))))
  fault_too_fine (Some TooFine) is = ((λ e. record { apart = spanned_off_line is.0; large = is.1 }), (λ fine. refl))

  pub through_too_fine : (answer : Result (Plane × Bool) ThroughFault) → IsLowestAnswer (spanned_plane p0 p1 p2) answer → (answer ≡ Err TooFine) ↔ IsPlaneTooFine p0 p1 p2
  unfolding plane_through
  through_too_fine (Ok r) is =
      ((λ e. cc), (λ fine. absurd (large_not_small (plane_through p0 p1 p2).0 fine.large (subst (λ (s : Plane × Bool). HasSmallNormal s.0) is.1 is.2))))
  through_too_fine (Err NoNormal) is = ((λ e. cc), (λ fine. absurd (fine.apart (spanned_on_line is))))
  through_too_fine (Err TooFine) is = ((λ e. record { apart = spanned_off_line is.0; large = is.1 }), (λ fine. refl))
