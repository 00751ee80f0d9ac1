-- In which piece a point of a polygon is once all owners have cut it: in one of the first owner behind whose cutters it is.
use Rattle.std.proofs.Common.{ℕ, Bool, List, ◌++◌, map, All}
use Rattle.std.proofs.lemmas.List.Elements.{All-nil, All-head, All-tail, All-append, All-map}
use Rattle.qm_space.specs.Point.{Point}
use Rattle.qm_space.specs.Plane.{Plane}
use Rattle.qm_convex.specs.Winding.{Winding}
use Rattle.qm_solids.specs.InBook.{BookSolid, solid_at}
use Rattle.qm_surface.specs.Owner.{FaceOwner}
use Rattle.qm_surface.specs.Cutting.{cutters}
use Rattle.qm_surface.specs.Surface.{FacePiece, piece_of, AreOwnedPieces, all_cut, cut_by}
use Rattle.qm_surface.specs.Covered.{IsInPiece}
use Rattle.qm_surface.proofs.OnlyOne.{NoneHas, HasOne, IsFirstThat, first, after, one_before, one_behind, one_mapped}
use Rattle.qm_surface.proofs.Carving.{Covers, IsBehindAll, IsOffAll, FallsInto, inside, beside, all_carved_none, all_carved_fall}

module _ (planes : List Plane) (solids : List BookSolid) (n : ℕ) (side : Bool) (leaf : ℕ) (x : Point) where
  -- the planes by which an owner cuts
  abbrev pub cutters_of : FaceOwner → List Plane
  cutters_of owner = cutters planes n (solid_at solids owner.brush).faces

  abbrev pub IsBehindIts : FaceOwner → Type 0
  IsBehindIts owner = IsBehindAll x (cutters_of owner)

  abbrev pub IsOffIts : FaceOwner → Type 0
  IsOffIts owner = IsOffAll x (cutters_of owner)

  abbrev Lacks : FacePiece → Type 0
  Lacks piece = IsInPiece x piece → ⊥

  -- polygons without the point have no piece with it
  pub pieces_none : (owners : List FaceOwner) (rest : List Winding) (pieces : List FacePiece) → AreOwnedPieces planes solids n side leaf owners rest pieces → NoneHas (Covers x) rest → NoneHas (IsInPiece x) pieces
  pieces_none owners rest pieces all_cut lacks = All-nil Lacks
  pieces_none owners rest pieces (cut_by {owner = owner} {owners = others} {left = left} {inners = inners} {pieces = later} carved are) lacks =
      let parts = all_carved_none x (cutters_of owner) rest left inners carved lacks in
      All-append Lacks (map (piece_of leaf side owner) inners) later (All-map Lacks (piece_of leaf side owner) inners parts.1) (pieces_none others left later are parts.0)

  -- the piece with the point, of that owner
  abbrev pub HasPieceOf : FaceOwner → List FacePiece → Type 0
  HasPieceOf owner pieces = (v : Winding) × HasOne (IsInPiece x) (piece_of leaf side owner v) pieces

  own_piece : (owner : FaceOwner) (left inners : List Winding) (later : List FacePiece) → FallsInto x (cutters_of owner) left inners → IsBehindIts owner → (NoneHas (Covers x) left → NoneHas (IsInPiece x) later) → HasPieceOf owner (map (piece_of leaf side owner) inners ++ later)
  own_piece owner left inners later (inside v all one none_left) behind none_later =
      (v, one_before (IsInPiece x) (piece_of leaf side owner v) (map (piece_of leaf side owner) inners) later (one_mapped (IsInPiece x) (piece_of leaf side owner) v inners one) (none_later none_left))
  own_piece owner left inners later (beside v not one none_inners) behind none_later = absurd (not behind)

  later_piece : (owner found : FaceOwner) (left inners : List Winding) (later : List FacePiece) → FallsInto x (cutters_of owner) left inners → (IsBehindIts owner → ⊥) → ((w : Winding) → HasOne (Covers x) w left → HasPieceOf found later) → HasPieceOf found (map (piece_of leaf side owner) inners ++ later)
  later_piece owner found left inners later (inside v all one none_left) not below = absurd (not all)
  later_piece owner found left inners later (beside v other one none_inners) not below =
      let its = below v one in
      (its.0, one_behind (IsInPiece x) (piece_of leaf side found its.0) (map (piece_of leaf side owner) inners) later (All-map Lacks (piece_of leaf side owner) inners none_inners) its.1)

  pub piece_found : (owners : List FaceOwner) (rest : List Winding) (pieces : List FacePiece) (owner : FaceOwner) (w : Winding) → AreOwnedPieces planes solids n side leaf owners rest pieces → All IsOffIts owners → IsFirstThat IsBehindIts owner owners → HasOne (Covers x) w rest → HasPieceOf owner pieces
  piece_found owners rest pieces owner w all_cut off found one = elim found [ ]
  piece_found owners rest pieces owner w (cut_by {owners = others} {left = left} {inners = inners} {pieces = later} carved are) off (first behind) one =
      own_piece owner left inners later (all_carved_fall x (cutters_of owner) rest left inners w carved (All-head IsOffIts owner others off) one) behind
      (λ none. pieces_none others left later are none)
  piece_found owners rest pieces owner w (cut_by {owner = before} {owners = others} {left = left} {inners = inners} {pieces = later} carved are) off (after not found) one =
      later_piece before owner left inners later (all_carved_fall x (cutters_of before) rest left inners w carved (All-head IsOffIts before others off) one) not
      (λ v its. piece_found others left later owner v are (All-tail IsOffIts before others off) found its)
