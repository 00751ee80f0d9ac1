use Rattle.std.specs.Prelude.{◌≡◌, ◌<◌, ℕ, not, List, ◌∷◌, ◌++◌, drop, length, map, Option, Some, None, option_to_list}
use Rattle.std.specs.Option.{MatchOption}
use Rattle.qm_space.specs.Plane.{Plane, flipped}
use Rattle.qm_convex.specs.Winding.{Winding}
use Rattle.qm_convex.specs.Sides.{HasNoneInFront}
use Rattle.qm_convex.specs.Cut.{IsPartInFront}
use Rattle.qm_partition.specs.Tree.{Tree}
use Rattle.qm_partition.specs.Counting.{node_count, leaf_count}
use Rattle.qm_contacts.specs.Touching.{Touching}
use Rattle.qm_solids.specs.declared.face.FaceRef.{FaceRef}
use Rattle.qm_solids.specs.InBook.{BookSolid, solid_at}
use Rattle.qm_surface.specs.Boundary.{rock_side, leaf_on}
use Rattle.qm_surface.specs.Owner.{FaceOwner}
use Rattle.qm_surface.specs.Cutting.{cutters, IsFrontPart, IsCarved, AreCarved}
use Rattle.qm_surface.specs.Surface.{FacePiece, piece_of, AreOwnedPieces, plane_of_node, IsCutUp}
use Rattle.qm_faces.specs.declared.boundary.Boundary.{Boundary}

-- What code does as it cuts polygons, step by step: what it leaves and what it finds are added to lists.

-- one plane cuts a polygon: what is in front is left, and what is behind goes on
pub record IsCutOnce (g : Plane) (w : Winding) (inner : Option Winding) (old new : List Winding) : Type 0 where
  pub front : Option Winding
  pub front_is : IsFrontPart front w g
  pub new_is : new ≡ old ++ option_to_list front
  pub inner_is : MatchOption inner (HasNoneInFront w (flipped g)) (λ v. IsPartInFront v w (flipped g))

-- one face cuts a polygon on the plane of a number: with whatever the other faces make of what goes on
pub record IsCutByFace (planes : List Plane) (n : ℕ) (face : FaceRef) (w : Winding) (inner : Option Winding) (old new : List Winding) : Type 0 where
  pub added : List Winding
  pub new_is : new ≡ old ++ added
  pub goes_on : (v : Winding) → inner ≡ Some v → (faces : List FaceRef) (left : List Winding) (last : Option Winding) →
      IsCarved (cutters planes n faces) v left last → IsCarved (cutters planes n (face ∷ faces)) w (added ++ left) last
  pub ends : inner ≡ None → (faces : List FaceRef) → IsCarved (cutters planes n (face ∷ faces)) w added None

-- all faces cut it
pub record IsCarvedBy (planes : List Plane) (n : ℕ) (faces : List FaceRef) (w : Winding) (inner : Option Winding) (old new : List Winding) : Type 0 where
  pub added : List Winding
  pub new_is : new ≡ old ++ added
  pub carved : IsCarved (cutters planes n faces) w added inner

-- the first i faces have cut it, and this part goes on: with whatever the other faces make of the part
pub record IsOnItsWay (planes : List Plane) (n : ℕ) (faces : List FaceRef) (i : ℕ) (w part : Winding) (old now : List Winding) : Type 0 where
  pub added : List Winding
  pub now_is : now ≡ old ++ added
  pub finish : (left : List Winding) (last : Option Winding) → IsCarved (cutters planes n (drop i faces)) part left last → IsCarved (cutters planes n faces) w (added ++ left) last

-- polygons are cut for one owner
pub record IsCutFor (planes : List Plane) (solids : List BookSolid) (boundary : Boundary) (owner : FaceOwner) (rest left : List Winding) (old new : List FacePiece) : Type 0 where
  pub inners : List Winding
  pub carved : AreCarved (cutters planes boundary.plane (solid_at solids owner.brush).faces) rest left inners
  pub new_is : new ≡ old ++ map (piece_of boundary.leaf boundary.side owner) inners

-- and for all owners
pub record AreCutFor (planes : List Plane) (solids : List BookSolid) (boundary : Boundary) (owners : List FaceOwner) (rest : List Winding) (old new : List FacePiece) : Type 0 where
  pub own : List FacePiece
  pub new_is : new ≡ old ++ own
  pub are : AreOwnedPieces planes solids boundary.plane boundary.side boundary.leaf owners rest own

-- and for the first i owners, with whatever is made of the rest for the others
pub record AreCutSoFar (planes : List Plane) (solids : List BookSolid) (boundary : Boundary) (owners : List FaceOwner) (i : ℕ) (rest left : List Winding) (old now : List FacePiece) : Type 0 where
  pub own : List FacePiece
  pub now_is : now ≡ old ++ own
  pub finish : (more : List FacePiece) → AreOwnedPieces planes solids boundary.plane boundary.side boundary.leaf (drop i owners) left more →
      AreOwnedPieces planes solids boundary.plane boundary.side boundary.leaf owners rest (own ++ more)

-- the node and the leaves of a touching pair are there
pub record IsPairThere (tree : Tree) (found : Touching) : Type 0 where
  pub node : found.node < node_count tree.shape
  pub front : found.front < leaf_count tree.shape
  pub back : found.back < leaf_count tree.shape

-- a boundary: its plane, where the rock is, and the leaf across
pub record IsBoundaryAt (tree : Tree) (found : Touching) (boundary : Boundary) : Type 0 where
  pub plane : boundary.plane ≡ plane_of_node tree found.node
  pub there : boundary.plane < length tree.planes
  pub side : rock_side tree found.front found.back ≡ Some boundary.side
  pub leaf : boundary.leaf ≡ leaf_on (not boundary.side) found.front found.back

-- the boundary of a touching pair, where it is one
abbrev pub IsBoundaryOf : Tree → Touching → Option Boundary → Type 0
IsBoundaryOf tree found boundary = MatchOption boundary (rock_side tree found.front found.back ≡ None) (IsBoundaryAt tree found)

-- the pieces of a touching pair are added
pub record AreAddedFor (tree : Tree) (solids : List BookSolid) (found : Touching) (old new : List FacePiece) : Type 0 where
  pub own : List FacePiece
  pub new_is : new ≡ old ++ own
  pub cut_up : IsCutUp tree solids found own
