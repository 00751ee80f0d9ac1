use Rattle.std.specs.Prelude.{◌≡◌, ◌<◌, ℕ, Bool, not, List, length, All, Some, slice_get, Contains}
use Rattle.qm_space.specs.Point.{Point}
use Rattle.qm_space.specs.Plane.{Plane}
use Rattle.qm_space.specs.Turned.{turned}
use Rattle.qm_space.specs.Cube.{cube_walls}
use Rattle.qm_space.specs.Book.{plane_at}
use Rattle.qm_convex.specs.Winding.{IsInRegion, IsConvex}
use Rattle.qm_partition.specs.Tree.{Tree}
use Rattle.qm_contacts.specs.Meeting.{Meeting, meetings}
use Rattle.qm_contacts.specs.Contact.{IsContact}
use Rattle.qm_solids.specs.InBook.{BookSolid}
use Rattle.qm_surface.specs.Boundary.{rock_side, leaf_on, IsBoundaryPoint}
use Rattle.qm_surface.specs.Owner.{IsOwnerAt}
use Rattle.qm_surface.specs.Surface.{FacePiece, owner_of}

-- Pieces cover the boundary of a map exactly: each boundary point lies in one piece alone, and no piece goes beyond its contact.

-- the point lies in the polygon of the piece
abbrev pub IsInPiece : Point → FacePiece → Type 0
IsInPiece x piece = IsInRegion piece.winding x

-- at this place of a list, and at no other, stands an item that has a property
pub record IsOnlyPlace {X : Type 0} (Has : X → Type 0) (items : List X) (place : ℕ) (item : X) : Type 0 where
  pub there : slice_get items place ≡ Some item
  pub has : Has item
  pub only : (other : ℕ) (its : X) → slice_get items other ≡ Some its → Has its → other ≡ place

-- just one piece has the boundary point; it names the leaf that is not solid there, and the point's owner
pub record HasOwnPiece (tree : Tree) (solids : List BookSolid) (meeting : Meeting) (side : Bool) (x : Point) (pieces : List FacePiece) : Type 0 where
  pub place : ℕ
  pub piece : FacePiece
  pub alone : IsOnlyPlace (IsInPiece x) pieces place piece
  pub leaf : piece.leaf ≡ leaf_on (not side) meeting.front.leaf meeting.back.leaf
  pub owner : IsOwnerAt tree.planes solids meeting.plane side x (owner_of piece)

-- a face of the cube, turned inward, or a plane of the book, turned to either side
pub data IsBookEdge (planes : List Plane) : Plane → Type 0 where
  of_cube : {wall : Plane} → Contains cube_walls wall → IsBookEdge planes wall
  of_book : (n : ℕ) (side : Bool) → n < length planes → IsBookEdge planes (turned side (plane_at planes n))

-- the piece is a convex polygon within the contact of rock with a leaf that is not solid, and names that leaf
pub record IsWithinContact (tree : Tree) (piece : FacePiece) : Type 0 where
  pub meeting : Meeting
  pub listed : Contains (meetings tree) meeting
  pub side : Bool
  pub sides : rock_side tree meeting.front.leaf meeting.back.leaf ≡ Some side
  pub leaf : piece.leaf ≡ leaf_on (not side) meeting.front.leaf meeting.back.leaf
  pub into : piece.into ≡ turned (not side) piece.winding.plane
  pub convex : IsConvex piece.winding
  pub plane : piece.winding.plane ≡ plane_at tree.planes meeting.plane
  pub within : (x : Point) → IsInRegion piece.winding x → IsContact tree.planes meeting x
  pub edges : All (IsBookEdge tree.planes) piece.winding.edges

pub record CoverBoundary (tree : Tree) (solids : List BookSolid) (pieces : List FacePiece) : Type 0 where
  pub each : (meeting : Meeting) (side : Bool) (x : Point) → IsBoundaryPoint tree meeting side x → HasOwnPiece tree solids meeting side x pieces
  pub within : All (IsWithinContact tree) pieces
