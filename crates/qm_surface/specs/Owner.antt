use Rattle.std.specs.Prelude.{◌≡◌, ◌≤◌, ◌==◌, ℕ, ◌+◌, Bool, true, false, not, ◌&&◌, List, [], ◌∷◌, ◌++◌, map, Option, Some, None, slice_get, option_to_list, if◌then◌else◌}
use Rattle.std.specs.List.{position_from}
use Rattle.qm_space.specs.Point.{Point}
use Rattle.qm_space.specs.Plane.{Plane}
use Rattle.qm_contacts.specs.NumberedLeaves.{is_solid}
use Rattle.qm_solids.specs.declared.face.FaceRef.{FaceRef}
use Rattle.qm_solids.specs.Holding.{Holds}
use Rattle.qm_solids.specs.InBook.{BookSolid, solid_in}

-- The owner of a boundary point: the brush to which the surface belongs there, and its face.

-- whether a side of the plane of a face is the inner one; true names the front
abbrev pub is_inner : FaceRef → Bool → Bool
is_inner face true = not face.out_is_front
is_inner face false = face.out_is_front

-- whether a face lies on the plane of a number and has that side of it inside
abbrev pub is_towards : ℕ → Bool → FaceRef → Bool
is_towards n side face = (face.plane == n) && is_inner face side

-- the face by which a brush may own points of a plane, where rock is on that side: the first one there that has the side inside;
-- a brush that is not full or not solid owns nothing
abbrev pub owning_face : ℕ → Bool → BookSolid → Option ℕ
owning_face n side solid = if solid.full && is_solid solid.contents then position_from (is_towards n side) 0 solid.faces else None

-- a brush and one of its faces, by their places
pub record FaceOwner : Type 0 where
  pub brush : ℕ
  pub face : ℕ

-- the brush may own a point of the plane by that face, and holds the point
pub record MayOwn (planes : List Plane) (solids : List BookSolid) (n : ℕ) (side : Bool) (x : Point) (owner : FaceOwner) : Type 0 where
  pub solid : BookSolid
  pub listed : slice_get solids owner.brush ≡ Some solid
  pub counts : owning_face n side solid ≡ Some owner.face
  pub holds : Holds (solid_in planes solid) x

-- the least brush that may
pub record IsOwnerAt (planes : List Plane) (solids : List BookSolid) (n : ℕ) (side : Bool) (x : Point) (owner : FaceOwner) : Type 0 where
  pub may : MayOwn planes solids n side x owner
  pub least : (other : FaceOwner) → MayOwn planes solids n side x other → owner.brush ≤ other.brush

-- the brushes that may own points of a plane, of brushes that are numbered from k on, in their order, each with its face
abbrev pub owners_from : ℕ → Bool → List BookSolid → ℕ → List FaceOwner
owners_from n side [] k = []
owners_from n side (solid ∷ solids) k =
    map (λ face. record { brush = k; face = face }) (option_to_list (owning_face n side solid)) ++ owners_from n side solids (k + 1)
