use Rattle.std.specs.Prelude.{◌≡◌, ◌↔◌, false, List, All, Contains}
use Rattle.qm_space.specs.Point.{Point, IsInCube}
use Rattle.qm_space.specs.Plane.{Plane, IsOn, IsBehind}
use Rattle.qm_space.specs.Book.{plane_at}
use Rattle.qm_space.specs.Turned.{turned}
use Rattle.qm_convex.specs.Winding.{Winding, IsInRegion, IsConvex}
use Rattle.qm_convex.specs.Sides.{HasNoneInFront}
use Rattle.qm_solids.specs.declared.face.FaceRef.{FaceRef}
use Rattle.qm_solids.specs.Outward.{outward_of}
use Rattle.qm_brush.specs.declared.fullness.FacePart.{FacePart}
use Rattle.qm_brush.specs.declared.fullness.FacePart.TheVariants.{Opposed, Missing, Present}

-- What a brush has of its faces inside the cube.

abbrev pub plane_in : List Plane → FaceRef → Plane
plane_in planes face = plane_at planes face.plane

-- the plane of a face, turned inward
abbrev pub inward_of : List Plane → FaceRef → Plane
inward_of planes face = turned false (outward_of planes face)

-- both faces are on one plane
abbrev pub AreOnOnePlane : FaceRef → FaceRef → Type 0
AreOnOnePlane face other = other.plane ≡ face.plane

-- both faces are on one plane, and turned against each other
pub record AreTurnedApart (face other : FaceRef) : Type 0 where
  pub one_plane : AreOnOnePlane face other
  pub apart : (other.out_is_front ≡ face.out_is_front → ⊥)

-- a point is strictly behind the other face, if that is on another plane
abbrev pub IsBehindOther : List Plane → FaceRef → Point → FaceRef → Type 0
IsBehindOther planes face x other = (AreOnOnePlane face other → ⊥) → IsBehind (outward_of planes other) x

-- a point of the cube on the plane of a face and strictly behind these faces, as far as they are on other planes
pub record IsOnPart (planes : List Plane) (faces : List FaceRef) (face : FaceRef) (x : Point) : Type 0 where
  pub in_cube : IsInCube x
  pub on : IsOn (plane_in planes face) x
  pub behind : All (IsBehindOther planes face x) faces

-- the winding is the part of a face in the cube and behind these faces, none of which is turned against it
pub record IsFacePart (planes : List Plane) (faces : List FaceRef) (face : FaceRef) (part : Winding) : Type 0 where
  pub convex : IsConvex part
  pub points : (x : Point) → IsInRegion part x ↔ IsOnPart planes faces face x
  pub none_apart : All (λ other. AreTurnedApart face other → ⊥) faces

-- what one other face leaves of a part
pub record IsNarrowed (planes : List Plane) (face other : FaceRef) (before after : Winding) : Type 0 where
  pub convex : IsConvex after
  pub points : (x : Point) → IsInRegion after x ↔ (IsInRegion before x × IsBehindOther planes face x other)
  pub not_apart : AreTurnedApart face other → ⊥

pub record IsLost (planes : List Plane) (face other : FaceRef) (before : Winding) : Type 0 where
  pub other_plane : AreOnOnePlane face other → ⊥
  pub none_behind : HasNoneInFront before (inward_of planes other)

abbrev pub IsNarrowing : FacePart → List Plane → FaceRef → FaceRef → Winding → Winding → Type 0
IsNarrowing Opposed planes face other before after = AreTurnedApart face other
IsNarrowing Missing planes face other before after = IsLost planes face other before
IsNarrowing Present planes face other before after = IsNarrowed planes face other before after

-- some point of the cube is on the face and behind the others, and none of them is turned against it
pub record IsPresent (planes : List Plane) (faces : List FaceRef) (face : FaceRef) : Type 0 where
  pub some : Point
  pub on_part : IsOnPart planes faces face some
  pub none_apart : All (λ other. AreTurnedApart face other → ⊥) faces

abbrev pub IsMissing : List Plane → List FaceRef → FaceRef → Type 0
IsMissing planes faces face = (x : Point) → IsOnPart planes faces face x → ⊥

pub record IsOpposed (faces : List FaceRef) (face : FaceRef) : Type 0 where
  pub other : FaceRef
  pub among : Contains faces other
  pub apart : AreTurnedApart face other

-- what there is of a face
abbrev pub IsPartOfFace : FacePart → List Plane → List FaceRef → FaceRef → Type 0
IsPartOfFace Opposed planes faces face = IsOpposed faces face
IsPartOfFace Missing planes faces face = IsMissing planes faces face
IsPartOfFace Present planes faces face = IsPresent planes faces face
