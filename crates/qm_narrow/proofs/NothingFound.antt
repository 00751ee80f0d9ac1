-- Where an outlook tells that no plane parts two windings, nothing is gained.
use Rattle.std.proofs.Common.{◌≡◌, false, List, refl, inl, inr}
use Rattle.qm_space.specs.Point.{Point}
use Rattle.qm_space.specs.Plane.{Plane}
use Rattle.qm_space.specs.Vector.{normal_of}
use Rattle.qm_space.specs.ThreePoints.{outward_plane}
use Rattle.qm_geom.specs.declared.vector.Vector.{Vector}
use Rattle.qm_convex.specs.Winding.{Winding}
use Rattle.qm_separators.specs.Gains.{Gains}
use Rattle.qm_separators.specs.inner.Outline.{IsMixOf}
use Rattle.qm_separators.specs.inner.Found.{SeparatesByMix}
use Rattle.qm_separators.proofs.GainedPlanes.{gains_there}
use Rattle.qm_narrow.specs.declared.outlook.Outlook.{Outlook}
use Rattle.qm_narrow.specs.inner.FoundPlanes.{AreAtLeastDistance}
use Rattle.qm_narrow.specs.inner.WholeCandidates.{IsToldBy}
use Rattle.qm_narrow.proofs.Outlooks.{gains_nowhere}

module _ (s p : Winding) (below above from to : Point) (outlook : Outlook) (told : (at : Point) → IsMixOf below above at → IsToldBy s p outlook at from to) (planes : List Plane) (found : AreAtLeastDistance s planes) where
  across : Point → Vector
  across at = let m = normal_of (outward_plane at from to) in record { x = m.x; y = m.y; z = m.z }

  pub gains_nothing : outlook.ahead ≡ false → outlook.back ≡ false → Gains (SeparatesByMix s p below above from to) planes planes
  unfolding outward_plane across
  gains_nothing not_ahead not_back = gains_there (SeparatesByMix s p below above from to) planes (λ h by.
      let is = told by.0 by.1 in
      ((gains_nowhere s p by.0 from to (across by.0) refl planes planes refl found outlook (λ not. inl (is.ahead (across by.0) refl not)) (λ not. inl (is.back (across by.0) refl not)) not_ahead not_back).members h).1 (inr by.2))
