use Rattle.std.specs.Prelude.{◌≡◌, ℕ, Bool, not, List, [], ◌∷◌, ◌++◌, map, Some, None, slice_index_or}
use Rattle.qm_space.specs.Plane.{Plane}
use Rattle.qm_space.specs.Turned.{turned}
use Rattle.qm_convex.specs.Winding.{Winding}
use Rattle.qm_partition.specs.Tree.{Tree}
use Rattle.qm_partition.specs.Counting.{node_planes}
use Rattle.qm_contacts.specs.Touching.{Touching}
use Rattle.qm_solids.specs.InBook.{BookSolid, solid_at}
use Rattle.qm_surface.specs.Boundary.{rock_side, leaf_on}
use Rattle.qm_surface.specs.Owner.{FaceOwner, owners_from}
use Rattle.qm_surface.specs.Cutting.{cutters, AreCarved}

-- The surface of a map as a list of polygons, each part of one face of one brush.

-- the leaf that is not solid, the brush and its face, the polygon, and its plane turned to the leaf
pub record FacePiece : Type 0 where
  pub leaf : ℕ
  pub brush : ℕ
  pub face : ℕ
  pub winding : Winding
  pub into : Plane

-- the owner of a piece
abbrev pub owner_of : FacePiece → FaceOwner
owner_of piece = record { brush = piece.brush; face = piece.face }

-- the piece of an owner, where rock is on that side of the polygon's plane
abbrev pub piece_of : ℕ → Bool → FaceOwner → Winding → FacePiece
piece_of leaf side owner winding = record { leaf = leaf; brush = owner.brush; face = owner.face; winding = winding; into = turned (not side) winding.plane }

-- the pieces of polygons on a plane: the first owner has what is behind all its other faces, and the next ones cut what it leaves
pub data AreOwnedPieces (planes : List Plane) (solids : List BookSolid) (n : ℕ) (side : Bool) (leaf : ℕ) : List FaceOwner → List Winding → List FacePiece → Type 0 where
  all_cut : {rest : List Winding} → AreOwnedPieces planes solids n side leaf [] rest []
  cut_by : {owner : FaceOwner} {owners : List FaceOwner} {rest left inners : List Winding} {pieces : List FacePiece} →
      AreCarved (cutters planes n (solid_at solids owner.brush).faces) rest left inners → AreOwnedPieces planes solids n side leaf owners left pieces →
      AreOwnedPieces planes solids n side leaf (owner ∷ owners) rest (map (piece_of leaf side owner) inners ++ pieces)

-- the number of the plane of a node; a node that is not there names plane 0
abbrev pub plane_of_node : Tree → ℕ → ℕ
plane_of_node tree n = slice_index_or (node_planes tree.shape) n 0

-- the pieces of a touching pair: its polygon is cut by all that may own points of it; a pair of which neither leaf is rock
-- beside one that is not solid has none
pub data IsCutUp (tree : Tree) (solids : List BookSolid) (found : Touching) : List FacePiece → Type 0 where
  boundary : {side : Bool} {pieces : List FacePiece} → rock_side tree found.front found.back ≡ Some side →
      AreOwnedPieces tree.planes solids (plane_of_node tree found.node) side (leaf_on (not side) found.front found.back)
      (owners_from (plane_of_node tree found.node) side solids 0) (found.winding ∷ []) pieces →
      IsCutUp tree solids found pieces
  no_boundary : rock_side tree found.front found.back ≡ None → IsCutUp tree solids found []

-- the pieces of touching pairs, in their order
pub data AreFacePieces (tree : Tree) (solids : List BookSolid) : List Touching → List FacePiece → Type 0 where
  none : AreFacePieces tree solids [] []
  more : {found : Touching} {touchings : List Touching} {own rest : List FacePiece} →
      IsCutUp tree solids found own → AreFacePieces tree solids touchings rest → AreFacePieces tree solids (found ∷ touchings) (own ++ rest)
