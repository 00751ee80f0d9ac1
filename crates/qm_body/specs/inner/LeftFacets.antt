-- What a plane leaves of a facet.
use Rattle.std.specs.Prelude.{◌≡◌, Option, Some, None, List, [], ◌∷◌, ◌++◌}
use Rattle.qm_space.specs.Plane.{Plane}
use Rattle.qm_convex.specs.Winding.{Winding}
use Rattle.qm_convex.specs.inner.Facets.{Facet, AreCut}

-- what is left of a facet on one side, if there is anything
abbrev pub left_facet : Plane → Option Winding → List Facet
left_facet inward None = []
left_facet inward (Some winding) = record { inward = inward; winding = winding } ∷ []

-- what is left of a facet in front of a plane is added to others
pub record IsLeftAdded (h : Plane) (facet : Facet) (old new : List Facet) : Type 0 where
  pub left : List Facet
  pub added : new ≡ old ++ left
  pub cut : AreCut h (facet ∷ []) left
