-- What the cube has of the faces of a solid, by the numbers of their planes in a book.
use Rattle.std.proofs.Common.{◌≡◌, ◌≢◌, inl, inr, ⊎_elim, ℕ, ◌<◌, Bool, true, false, not, Option, Some, None, List, [], ◌∷◌, ◌++◌, length, All, Contains, option_to_list, append-nil, sym, ◌∙◌, ap, subst, arith}
use Rattle.std.specs.Prelude.{slice_get}
use Rattle.std.specs.Bool.{MatchBool}
use Rattle.std.specs.Option.{MatchOption}
use Rattle.std.proofs.lemmas.List.Elements.{All-nil, All-contains, Contains-push, Contains-push_cases, Contains-append_left}
use Rattle.qm_numbers.proofs.IntegerProducts.{linear}
use Rattle.qm_space.specs.Point.{Point}
use Rattle.qm_lists.proofs.Elements.{All-first_part, All-last_part, Contains-nil, Contains-map, Contains-map_from}
use Rattle.qm_space.specs.Plane.{Plane, flipped, IsBehind, IsInFront, IsNotInFront}
use Rattle.qm_space.specs.Cuboid.{Cuboid, whole_cuboid, IsInCuboid, IsTightened}
use Rattle.qm_space.proofs.Cubes.{cube_in_closed}
use Rattle.qm_space.proofs.Cuboids.{closed_cube_in_whole}
use Rattle.qm_space.proofs.Planes.{value_flipped}
use Rattle.qm_space.specs.Reduced.{IsReduced}
use Rattle.qm_space.specs.Turned.{turned}
use Rattle.qm_space.specs.Book.{plane_at, AreBookPlanes}
use Rattle.qm_space.proofs.TurnedPlanes.{turned_other_in_front, turned_is_reduced}
use Rattle.qm_convex.specs.Winding.{Winding}
use Rattle.qm_convex.specs.Sides.{HasNoneInFront}
use Rattle.qm_convex.specs.Cut.{IsPartInFront}
use Rattle.qm_convex.specs.World.{MissesCube, IsWorldPart}
use Rattle.qm_wind.specs.Clipped.{IsCutDown}
use Rattle.qm_contents.specs.declared.contents.Contents.{Contents}
use Rattle.qm_solids.specs.declared.face.FaceRef.{FaceRef}
use Rattle.qm_solids.specs.Outward.{outward_of, outward_planes, AreNumberedIn}
use Rattle.qm_solids.specs.Solid.{Solid}
use Rattle.qm_solids.specs.Holding.{IsFull}
use Rattle.qm_solids.specs.Cells.{ContainsCell}
use Rattle.qm_solids.specs.Candidates.{IsSamePlane, IsOnFace}
use Rattle.qm_solids.proofs.UniformCells.{contains_throughout}
use Rattle.qm_solids.proofs.PlanesInCommon.{turned_lies_on, same_face}
use Rattle.qm_solids.proofs.BookFaces.{stands_at, same_number}
use Rattle.qm_split.specs.declared.piece.Piece.{Piece}
use Rattle.qm_split.specs.Pieces.{IsPieceInCell, HasPointOfFace, ArePiecesInCell, IsHeldWithin}
use Rattle.qm_split.specs.inner.PieceParts.{IsNumberedPiece}
use Rattle.qm_split.specs.inner.FacePieces.{solid_behind, IsFacePoint, IsFacePiece, HasNoFacePoint, IsPieceOfFace, HasPieceOfFace, HasFacePieces, HasAllBehind, LeavesAllBehind}
use Rattle.qm_split.proofs.ListedItems.{all_of_listed}
use Rattle.qm_split.proofs.PartedPieces.{meets_no_face}

-- ---- the winding of one face

pub face_begins : (book : List Plane) (number : ℕ) (w : Winding) → IsWorldPart w (plane_at book number) → IsFacePiece book number [] w
face_begins book number w part = record {
  convex = part.convex;
  plane = part.plane;
  points = λ x. (
    (λ r. let both = (part.points x).0 r in record { in_cube = both.1; on = both.0; behind = λ face among. absurd (Contains-nil face among) }),
    (λ at. (part.points x).1 (at.on, at.in_cube)),
  );
}

pub no_face_point_outside : (book : List Plane) (number : ℕ) (faces : List FaceRef) → MissesCube (plane_at book number) → HasNoFacePoint book number faces
no_face_point_outside book number faces misses x at = misses x at.in_cube at.on

-- a point of a face by some faces, where more are given
pub point_of_fewer : (book : List Plane) (number : ℕ) (faces fewer : List FaceRef) (x : Point) → ((face : FaceRef) → Contains fewer face → Contains faces face) → IsFacePoint book number faces x → IsFacePoint book number fewer x
point_of_fewer book number faces fewer x among at = record { in_cube = at.in_cube; on = at.on; behind = λ face listed. at.behind face (among face listed) }

module _ (book : List Plane) (number : ℕ) (done : List FaceRef) (face : FaceRef) (w : Winding) (is : IsFacePiece book number done w) where
  earlier : (f : FaceRef) → Contains done f → Contains (done ++ face ∷ []) f
  earlier f listed = Contains-append_left done (face ∷ []) f listed

  -- a face of the same number parts nothing
  pub face_same : face.plane ≡ number → IsFacePiece book number (done ++ face ∷ []) w
  face_same same = record {
    convex = is.convex;
    plane = is.plane;
    points = λ x. (
      (λ r. let at = (is.points x).0 r in record {
        in_cube = at.in_cube;
        on = at.on;
        behind = λ f among apart. ⊎_elim (λ before. at.behind f before apart) (λ e. absurd (apart (ap (λ (g : FaceRef). g.plane) (sym e) ∙ same))) (Contains-push_cases done face f among);
      }),
      (λ at. (is.points x).1 (point_of_fewer book number (done ++ face ∷ []) done x earlier at)),
    );
  }

  module _ (apart : face.plane ≢ number) (inner : Plane) (turns : inner ≡ turned (not face.out_is_front) (plane_at book face.plane)) where
    inner_front : (x : Point) → IsInFront inner x → IsBehind (outward_of book face) x
    inner_front x front = (turned_other_in_front face.out_is_front (plane_at book face.plane) x).0 (subst (λ (h : Plane). IsInFront h x) turns front)

    behind_inner : (x : Point) → IsBehind (outward_of book face) x → IsInFront inner x
    behind_inner x behind = subst (λ (h : Plane). IsInFront h x) (sym turns) ((turned_other_in_front face.out_is_front (plane_at book face.plane) x).1 behind)

    pub face_gone : HasNoneInFront w inner → HasNoFacePoint book number (done ++ face ∷ [])
    face_gone none x at =
        let not = none x ((is.points x).1 (point_of_fewer book number (done ++ face ∷ []) done x earlier at)) in
        let front = behind_inner x (at.behind face (Contains-push done face) apart) in
        absurd (omega (arith, linear))

    pub face_kept : (kept : Winding) → IsPartInFront kept w inner → IsFacePiece book number (done ++ face ∷ []) kept
    face_kept kept part = record {
      convex = part.convex;
      plane = part.plane ∙ is.plane;
      points = λ x. (
        (λ r. let both = (part.points x).0 r in let at = (is.points x).0 both.0 in record {
          in_cube = at.in_cube;
          on = at.on;
          behind = λ f among other. ⊎_elim (λ before. at.behind f before other) (λ e. subst (λ (g : FaceRef). IsBehind (outward_of book g) x) e (inner_front x both.1)) (Contains-push_cases done face f among);
        }),
        (λ at. (part.points x).1 ((is.points x).1 (point_of_fewer book number (done ++ face ∷ []) done x earlier at), behind_inner x (at.behind face (Contains-push done face) apart))),
      );
    }

    pub face_cut : (left : Bool) (kept : Winding) → IsCutDown left kept w inner → MatchBool left (IsFacePiece book number (done ++ face ∷ []) kept) (HasNoFacePoint book number (done ++ face ∷ []))
    face_cut true kept part = face_kept kept part
    face_cut false kept none = face_gone none.1

-- ---- the pieces of all faces

pub face_pieces_begin : (book : List Plane) (faces : List FaceRef) → HasFacePieces book faces [] []
face_pieces_begin book faces = record { each = λ p among. absurd (Contains-nil p among); all = λ face among. absurd (Contains-nil face among) }

module _ (book : List Plane) (faces done : List FaceRef) (face : FaceRef) (ps : List Piece) (are : HasFacePieces book faces done ps) where
  earlier_face : (f : FaceRef) → Contains done f → Contains (done ++ face ∷ []) f
  earlier_face f listed = Contains-append_left done (face ∷ []) f listed

  no_piece : HasNoFacePoint book face.plane faces → HasFacePieces book faces (done ++ face ∷ []) ps
  no_piece none = record {
    each = λ p among. let e = are.each p among in record { face = e.face; listed = earlier_face e.face e.listed; is = e.is };
    all = λ f among. ⊎_elim (λ before. are.all f before) (λ same. inl (subst (λ (g : FaceRef). HasNoFacePoint book g.plane faces) same none)) (Contains-push_cases done face f among);
  }

  one_piece : (piece : Piece) → piece.number ≡ face.plane → IsFacePiece book face.plane faces piece.winding.value → HasFacePieces book faces (done ++ face ∷ []) (ps ++ piece ∷ [])
  one_piece piece number is = record {
    each = λ p among. ⊎_elim
        (λ before. let e = are.each p before in record { face = e.face; listed = earlier_face e.face e.listed; is = e.is })
        (λ same. record { face = face; listed = Contains-push done face; is = subst (IsPieceOfFace book faces face) same (record { number = number; winding = is }) })
        (Contains-push_cases ps piece p among);
    all = λ f among. ⊎_elim
        (λ before. ⊎_elim inl (λ has. inr (record { piece = has.piece; listed = Contains-append_left ps (piece ∷ []) has.piece has.listed; is = has.is })) (are.all f before))
        (λ same. inr (subst (λ (g : FaceRef). HasPieceOfFace book faces (ps ++ piece ∷ []) g) same (record { piece = piece; listed = Contains-push ps piece; is = record { number = number; winding = is } })))
        (Contains-push_cases done face f among);
  }

  pub face_pieces_more : (w : Option Winding) (part : Option Piece) → MatchOption w (HasNoFacePoint book face.plane faces) (IsFacePiece book face.plane faces) → IsNumberedPiece face.plane w part →
      HasFacePieces book faces (done ++ face ∷ []) (ps ++ option_to_list part)
  face_pieces_more None part none is =
      subst (λ (o : Option Piece). HasFacePieces book faces (done ++ face ∷ []) (ps ++ option_to_list o)) (sym is)
      (subst (λ (qs : List Piece). HasFacePieces book faces (done ++ face ∷ []) qs) (sym (append-nil ps)) (no_piece none))
  face_pieces_more (Some w) None piece is = absurd is
  face_pieces_more (Some w) (Some part) piece is = one_piece part is.0 (subst (IsFacePiece book face.plane faces) (sym is.1) piece)

-- the pieces of all faces are what the cube has of the solid's faces
module _ (book : List Plane) (faces : List FaceRef) (contents : Contents) (planes : AreBookPlanes book) (numbered : AreNumberedIn book faces) (ps : List Piece) (are : HasFacePieces book faces faces ps) where
  abbrev solid : Solid
  solid = solid_behind book faces contents

  within_book : (f : FaceRef) → Contains faces f → f.plane < length book
  within_book f among = All-contains (λ (g : FaceRef). g.plane < length book) faces f numbered among

  listed_outward : (f : FaceRef) → Contains faces f → Contains solid.outward (outward_of book f)
  listed_outward f among = Contains-map (outward_of book) faces f among

  lies_on_its_plane : (f : FaceRef) → IsSamePlane (outward_of book f) (plane_at book f.plane)
  lies_on_its_plane f = turned_lies_on f.out_is_front (plane_at book f.plane)

  on_face_of_point : (f : FaceRef) (x : Point) → IsFacePoint book f.plane faces x → IsOnFace solid [] (plane_at book f.plane) x
  on_face_of_point f x at = record {
    in_cube = at.in_cube;
    in_cell = All-nil (λ h. IsInFront h x);
    on = at.on;
    behind_others = λ other among apart.
        let r = Contains-map_from (outward_of book) faces other among in
        subst (λ (h : Plane). IsBehind h x) r.2 (at.behind r.0 r.1
        (λ same. apart (subst (λ (h : Plane). IsSamePlane h (plane_at book f.plane)) r.2 (subst (λ (n : ℕ). IsSamePlane (outward_of book r.0) (plane_at book n)) same (lies_on_its_plane r.0)))));
  }

  point_of_on_face : (f : FaceRef) (x : Point) → Contains faces f → IsOnFace solid [] (plane_at book f.plane) x → IsFacePoint book f.plane faces x
  point_of_on_face f x among on = record {
    in_cube = on.in_cube;
    on = on.on;
    behind = λ r listed apart. on.behind_others (outward_of book r) (listed_outward r listed)
        (λ lies. apart (same_number book planes r.plane f.plane (within_book r listed) (within_book f among) r.out_is_front true lies));
  }

  sound_piece : (p : Piece) → Contains ps p → IsPieceInCell book [] solid p
  sound_piece p among =
      let e = are.each p among in
      let f = e.face in
      let is = e.is.winding in
      record {
        numbered = ap (slice_get book) e.is.number ∙ stands_at book f.plane (within_book f e.listed) ∙ ap (λ (h : Plane). Some h) (sym is.plane);
        face = outward_of book f;
        has_face = listed_outward f e.listed;
        lies_on = subst (λ (h : Plane). IsSamePlane (outward_of book f) h) (sym is.plane) (lies_on_its_plane f);
        convex = is.convex;
        reduced = subst IsReduced (sym is.plane) (planes.reduced f.plane (plane_at book f.plane) (stands_at book f.plane (within_book f e.listed)));
        points = λ x. (
          (λ r. subst (λ (h : Plane). IsOnFace solid [] h x) (sym is.plane) (on_face_of_point f x ((is.points x).0 r))),
          (λ on. (is.points x).1 (point_of_on_face f x e.listed (subst (λ (h : Plane). IsOnFace solid [] h x) is.plane on))),
        );
      }

  complete_at_face : (face : Plane) (x : Point) → Contains solid.outward face → IsOnFace solid [] face x → HasPointOfFace face x ps
  complete_at_face face x among on =
      let r = Contains-map_from (outward_of book) faces face among in
      let lies = subst (λ (h : Plane). IsSamePlane h (plane_at book r.0.plane)) r.2 (lies_on_its_plane r.0) in
      let at = point_of_on_face r.0 x r.1 (same_face solid [] face (plane_at book r.0.plane) x lies on) in
      ⊎_elim
      (λ none. absurd (none x at))
      (λ has. record {
        piece = has.piece;
        listed = has.listed;
        lies_on = subst (λ (h : Plane). IsSamePlane face h) (sym has.is.winding.plane) lies;
        has = (has.is.winding.points x).1 at;
      })
      (are.all r.0 r.1)

  pub pieces_in_cube : ArePiecesInCell book [] solid ps
  pieces_in_cube = record { sound = all_of_listed (IsPieceInCell book [] solid) ps sound_piece; complete = complete_at_face }

-- ---- what a full solid is to the cube

-- each outward plane is in lowest terms, since it is a plane of the book
pub outward_reduced : (book : List Plane) (faces : List FaceRef) → AreBookPlanes book → AreNumberedIn book faces → All IsReduced (outward_planes book faces)
outward_reduced book faces planes numbered = all_of_listed IsReduced (outward_planes book faces) one
  where
    one : (h : Plane) → Contains (outward_planes book faces) h → IsReduced h
    one h among =
        let r = Contains-map_from (outward_of book) faces h among in
        let within = All-contains (λ (g : FaceRef). g.plane < length book) faces r.0 numbered r.1 in
        subst IsReduced r.2 (turned_is_reduced r.0.out_is_front (plane_at book r.0.plane) (planes.reduced r.0.plane (plane_at book r.0.plane) (stands_at book r.0.plane within)))

-- a full solid without pieces contains the cube
pub contains_cube : (book : List Plane) (solid : Solid) → IsFull solid → ArePiecesInCell book [] solid [] → ContainsCell solid []
contains_cube book solid full are = contains_throughout solid [] (meets_no_face book [] solid are) full.within full.in_cube (All-nil (λ h. IsInFront h full.within)) full.inside

-- a cuboid that has all of the cube behind the outward planes has what the solid holds of it
pub all_left_twice : (outward : List Plane) (whole once twice : Cuboid) → whole ≡ whole_cuboid → LeavesAllBehind whole outward once → LeavesAllBehind once outward twice → HasAllBehind twice outward
all_left_twice outward whole once twice same first second x in_cube none =
    second x in_cube (first x in_cube (subst (λ (c : Cuboid). IsInCuboid c x) (sym same) (closed_cube_in_whole x (cube_in_closed x in_cube))) none) none

pub left_in_tightened : (outward : List Plane) (o : Plane) (cuboid left t : Cuboid) → LeavesAllBehind cuboid outward left → IsTightened t left (flipped o) → LeavesAllBehind cuboid (outward ++ o ∷ []) t
left_in_tightened outward o cuboid left t all tight x in_cube within none =
    let k = in_cube.weight in
    let e = value_flipped o x in
    let behind = All-last_part (λ h. IsNotInFront h x) outward (o ∷ []) none 0 o (omega arith) in
    tight x (omega (arith, linear)) (all x in_cube within (All-first_part (λ h. IsNotInFront h x) outward (o ∷ []) none)) (omega (arith, linear))

pub held_in_cube : (cuboid : Cuboid) (one : Solid) → HasAllBehind cuboid one.outward → IsHeldWithin cuboid one []
held_in_cube cuboid one all x in_cube in_cell holds = all x in_cube holds.not_in_front
