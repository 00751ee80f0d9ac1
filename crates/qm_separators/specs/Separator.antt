use Rattle.std.specs.Prelude.{◌⊎◌, ℤ, List, [], ◌∷◌, Option, MatchOption}
use Rattle.qm_space.specs.Plane.{Plane}
use Rattle.qm_space.specs.Reduced.{HasSmallNormal}
use Rattle.qm_space.specs.LeastDistance.{IsLeastDistance}
use Rattle.qm_convex.specs.Winding.{Winding, corners}
use Rattle.qm_convex.specs.Sides.{HasNoCornerBehind, HasCornerBehind, HasCornerInFront}
use Rattle.qm_separators.specs.Across.{HasNormalAcross}

-- the components of a plane's normal
abbrev pub normal_components : Plane → List ℤ
normal_components h = h.nx ∷ h.ny ∷ h.nz ∷ []

-- the plane touches the winding from in front: no corner of the winding is in front of it, and at any lesser distance some
-- corner is
abbrev pub TouchesFromInFront : Winding → Plane → Type 0
TouchesFromInFront v h = IsLeastDistance (normal_components h) (corners v) h.d

-- The plane separates the source from the pass: it touches the source from in front, and has the pass in front, no corner of
-- it behind; some corner of one of the two is off it; and it has the normal of an edge of the one and a corner of the other,
-- which is small.
pub record IsSeparator (source pass : Winding) (h : Plane) : Type 0 where
  pub touches : TouchesFromInFront source h
  pub in_front : HasNoCornerBehind pass h
  pub strict : HasCornerBehind source h ⊎ HasCornerInFront pass h
  pub across : HasNormalAcross (corners source) (corners pass) h ⊎ HasNormalAcross (corners pass) (corners source) h
  pub small : HasSmallNormal h

-- a separator of the winding and the pass, where there is a pass; where there is none, no plane
abbrev pub IsSeparatorFrom : Option Winding → Winding → Plane → Type 0
IsSeparatorFrom pass v h = MatchOption pass ⊥ (λ p. IsSeparator v p h)
