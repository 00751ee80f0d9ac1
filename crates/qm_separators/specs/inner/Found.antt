use Rattle.std.specs.Prelude.{◌≡◌, ◌⊎◌, ℕ, ◌<◌, List, length, Contains}
use Rattle.qm_space.specs.Point.{Point}
use Rattle.qm_space.specs.Plane.{Plane}
use Rattle.qm_space.specs.Vector.{normal_of}
use Rattle.qm_convex.specs.Winding.{Winding, next_place, corner_at}
use Rattle.qm_convex.specs.Sides.{HasNoCornerBehind, HasCornerBehind, HasCornerInFront}
use Rattle.qm_separators.specs.WholePoints.{IsNearestPoint, IsAround}
use Rattle.qm_separators.specs.Across.{HasNormalOf}
use Rattle.qm_separators.specs.Separator.{TouchesFromInFront, IsSeparator}
use Rattle.qm_separators.specs.inner.Outline.{IsMixOf}

-- How separators are found: for each edge and each corner, for each whole point around the corner, for each side.

-- the plane parts the pass from the source: what is asked of a separator beside its normal
pub record Parts (source pass : Winding) (h : Plane) : Type 0 where
  pub in_front : HasNoCornerBehind pass h
  pub strict : HasCornerBehind source h ⊎ HasCornerInFront pass h

-- it does, and has the normal of another plane and touches the source from in front
pub record PartsAlong (source pass : Winding) (along h : Plane) : Type 0 where
  pub normal : normal_of h ≡ normal_of along
  pub touches : TouchesFromInFront source h
  pub parts : Parts source pass h

-- whole points of an edge of the one winding and of a corner of the other
pub record AreOfEdgeAndCorner (edges others : Winding) (at from to : Point) : Type 0 where
  pub place : ℕ
  pub corner : ℕ
  pub place_in : place < length edges.edges
  pub corner_in : corner < length others.edges
  pub from_is : IsNearestPoint (corner_at edges place) from
  pub to_is : IsNearestPoint (corner_at edges (next_place (length edges.edges) place)) to
  pub at_is : IsAround (corner_at others corner) at

-- either way
abbrev pub AreCandidate : Winding → Winding → Point → Point → Point → Type 0
AreCandidate source pass at from to = AreOfEdgeAndCorner source pass at from to ⊎ AreOfEdgeAndCorner pass source at from to

-- with each mix of two points
abbrev pub AreCandidates : Winding → Winding → Point → Point → Point → Point → Type 0
AreCandidates source pass below above from to = (at : Point) → IsMixOf below above at → AreCandidate source pass at from to

-- a separator with the normal of three points
abbrev pub SeparatesBy : Winding → Winding → Point → Point → Point → Plane → Type 0
SeparatesBy source pass at from to h = IsSeparator source pass h × HasNormalOf at from to h

-- a separator with the normal of two points and some mix of two others
abbrev pub SeparatesByMix : Winding → Winding → Point → Point → Point → Point → Plane → Type 0
SeparatesByMix source pass below above from to h = (at : Point) × IsMixOf below above at × SeparatesBy source pass at from to h

-- a separator with a normal through the edge at one place and the corner at another
pub record SeparatesAt (source pass edges others : Winding) (i k : ℕ) (h : Plane) : Type 0 where
  pub separator : IsSeparator source pass h
  pub at : Point
  pub from : Point
  pub to : Point
  pub from_is : IsNearestPoint (corner_at edges i) from
  pub to_is : IsNearestPoint (corner_at edges (next_place (length edges.edges) i)) to
  pub at_is : IsAround (corner_at others k) at
  pub normal : HasNormalOf at from to h

-- through the edge at a place and any corner
abbrev pub SeparatesByEdge : Winding → Winding → Winding → Winding → ℕ → Plane → Type 0
SeparatesByEdge source pass edges others i h = (k : ℕ) × (k < length others.edges) × SeparatesAt source pass edges others i k h

-- the windings in this order, or the other way round
abbrev pub AreBoth : Winding → Winding → Winding → Winding → Type 0
AreBoth source pass edges others = ((edges ≡ source) × (others ≡ pass)) ⊎ ((edges ≡ pass) × (others ≡ source))

-- the winding has a corner in front of each of some planes
abbrev pub HasCornersBeyond : Winding → List Plane → Type 0
HasCornersBeyond v planes = (h : Plane) → Contains planes h → HasCornerInFront v h
