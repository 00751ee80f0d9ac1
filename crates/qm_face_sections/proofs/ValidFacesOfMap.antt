-- The faces of a map can stand in a section, where their bytes are not too long.
use Rattle.std.proofs.Common.{◌≡◌, ◌<◌, ◌≤◌, ℕ, ◌^◌, ℤ, Bool, true, false, not, List, [], ◌∷◌, ◌++◌, length, get_or, All, sym, ap, subst, length-append, arith}
use Rattle.std.specs.Int.{w64}
use Rattle.std.proofs.lemmas.Option.{slice_get-get_or}
use Rattle.std.proofs.lemmas.List.Elements.{All-contains, All-head, All-tail, All-nil, All-cons, All-weaker}
use Rattle.qm_space.specs.Bounds.{world_extent}
use Rattle.qm_space.specs.Plane.{Plane}
use Rattle.qm_mapfile.specs.declared.entity.MapFile.{MapFile}
use Rattle.qm_convex.specs.Winding.{Winding}
use Rattle.qm_partition.specs.Tree.{Tree}
use Rattle.qm_partition.specs.Counting.{leaf_count}
use Rattle.qm_partition.specs.Numbering.{nodes_after, leaves_after}
use Rattle.qm_partition.proofs.Counts.{leaves_after-count}
use Rattle.qm_contacts.specs.Meeting.{Meeting, meetings}
use Rattle.qm_contacts.proofs.Meetings.{IsBetween, meetings_between}
use Rattle.qm_formats.specs.Fields.{unsigned}
use Rattle.qm_formats.specs.FileParts.{short}
use Rattle.qm_formats.specs.FileLayout.{file_limit}
use Rattle.qm_formats.specs.TreeFile.{TreeFile}
use Rattle.qm_surface.specs.Boundary.{leaf_on}
use Rattle.qm_surface.specs.Surface.{FacePiece}
use Rattle.qm_surface.specs.Covered.{IsWithinContact}
use Rattle.qm_face_layout.specs.declared.face_record.FaceRecord.{FaceRecord}
use Rattle.qm_face_layout.specs.ValidFace.{IsFaceOfFile, AreFacesOfFile}
use Rattle.qm_face_layout.specs.FacesLayout.{faces_bytes}
use Rattle.qm_face_layout.specs.FaceCorners.{AreNumberedCorners}
use Rattle.qm_face_layout.proofs.NumberedCorners.{numbered_face}
use Rattle.qm_face_sections.specs.FaceRecords.{IsRecordOf, AreRecordsOf, HasSmallNumbers}
use Rattle.qm_face_sections.specs.MapFaces.{AreFacesOfMap}
use Rattle.qm_face_sections.specs.FaceBytes.{AreBytesOfFaces}
use Rattle.qm_face_sections.proofs.FaceSizes.{HasTriples, bytes_of_each_face, some_bytes_each, corners_within}

-- ---- what the records of pieces are

-- each corner has three numbers
triples_of : (planes : List Plane) (bound : ℕ) (w : Winding) (into : Plane) (corners : List (List ℤ)) → AreNumberedCorners planes bound w into corners → All (λ (corner : List ℤ). length corner ≡ 3) corners
triples_of planes bound w into corners are = λ i d within. ap length (are.each i (get_or corners i d) (slice_get-get_or corners i d within)).corner_is

have_triples : (planes : List Plane) (bound : ℕ) (pieces : List FacePiece) (faces : List FaceRecord) → AreRecordsOf planes bound pieces faces → All HasTriples faces
have_triples planes bound [] [] are = All-nil HasTriples
have_triples planes bound [] (face ∷ faces) are = absurd are
have_triples planes bound (piece ∷ pieces) [] are = absurd are
have_triples planes bound (piece ∷ pieces) (face ∷ faces) are =
    All-cons HasTriples face faces (triples_of planes bound piece.winding piece.into face.corners are.0.corners) (have_triples planes bound pieces faces are.1)

module _ (tree : Tree) where
  -- the leaf that a piece names is one of the tree's
  leaf_there : (piece : FacePiece) → IsWithinContact tree piece → piece.leaf < leaf_count tree.shape
  leaf_there piece is = by (not is.side) is.leaf
    where
      Between : Meeting → Type 0
      Between = IsBetween 0 (nodes_after tree.shape 0) 0 (leaves_after tree.shape 0)

      between : Between is.meeting
      between = All-contains Between (meetings tree) is.meeting (meetings_between tree.shape 0 0 []) is.listed

      by : (side : Bool) → piece.leaf ≡ leaf_on side is.meeting.front.leaf is.meeting.back.leaf → piece.leaf < leaf_count tree.shape
      by true front = omega (arith, front, between.leaf_order, between.leaf_high, leaves_after-count tree.shape 0)
      by false back = omega (arith, back, between.leaf_high, leaves_after-count tree.shape 0)

  module _ (few_planes : length tree.planes < 2 ^ 32) (file : TreeFile) (tree_is : file.tree ≡ tree) (bound_is : file.bound ≡ world_extent) where
    in_file : (w : Winding) (into : Plane) (corners : List (List ℤ)) → AreNumberedCorners tree.planes world_extent w into corners → AreNumberedCorners file.tree.planes file.bound w into corners
    in_file w into corners are =
        subst (λ (bound : ℕ). AreNumberedCorners file.tree.planes bound w into corners) (sym bound_is)
        (subst (λ (t : Tree). AreNumberedCorners t.planes world_extent w into corners) (sym tree_is) are)

    -- a record of a piece can stand in a file of the tree
    record_stands : (piece : FacePiece) (face : FaceRecord) → IsRecordOf tree.planes world_extent piece face → IsWithinContact tree piece → HasSmallNumbers face → length face.corners < 2 ^ 32 → IsFaceOfFile file face
    record_stands piece face is within small few =
        numbered_face file face piece.winding piece.into
        (record {
          few_planes = subst (λ (t : Tree). length t.planes < 2 ^ 32) (sym tree_is) few_planes;
          leaf_there = subst (λ (t : Tree). face.leaf < leaf_count t.shape) (sym tree_is) (subst (λ (n : ℕ). n < leaf_count tree.shape) (sym is.leaf_is) (leaf_there piece within));
          leaf_fits = small.leaf_fits;
          brush_fits = small.brush_fits;
          face_fits = small.face_fits;
          few = few;
        })
        within.convex (in_file piece.winding piece.into face.corners is.corners)

    records_stand : (pieces : List FacePiece) (faces : List FaceRecord) → AreRecordsOf tree.planes world_extent pieces faces → All (IsWithinContact tree) pieces → All HasSmallNumbers faces → All (λ face. length face.corners < 2 ^ 32) faces →
        All (IsFaceOfFile file) faces
    records_stand [] [] are within small few = All-nil (IsFaceOfFile file)
    records_stand [] (face ∷ faces) are within small few = absurd are
    records_stand (piece ∷ pieces) [] are within small few = absurd are
    records_stand (piece ∷ pieces) (face ∷ faces) are within small few =
        let Few : FaceRecord → Type 0 = λ f. length f.corners < 2 ^ 32 in
        let Within = IsWithinContact tree in
        All-cons (IsFaceOfFile file) face faces
        (record_stands piece face are.0 (All-head Within piece pieces within) (All-head HasSmallNumbers face faces small) (All-head Few face faces few))
        (records_stand pieces faces are.1 (All-tail Within piece pieces within) (All-tail HasSmallNumbers face faces small) (All-tail Few face faces few))

-- ---- their bytes

module _ (map : MapFile) (tree : Tree) (few_planes : length tree.planes < 2 ^ 32) (faces : List FaceRecord) (bytes : List ℕ) (are : AreFacesOfMap map tree faces) (small : All HasSmallNumbers faces) (exactly : bytes ≡ faces_bytes faces) where
  long : length bytes ≡ length ((unsigned short w64).bytes_of (length faces) ++ bytes_of_each_face faces)
  unfolding faces_bytes
  long = ap length exactly

  -- faces whose bytes are not too long can stand in a file of the tree
  valid_faces : length bytes ≤ file_limit → (file : TreeFile) → file.tree ≡ tree → file.bound ≡ world_extent → AreFacesOfFile file faces
  valid_faces fits file tree_is bound_is =
      let parts = length-append ((unsigned short w64).bytes_of (length faces)) (bytes_of_each_face faces) in
      let triples = have_triples tree.planes world_extent are.pieces faces are.are_records in
      let Within : FaceRecord → Type 0 = λ f. length f.corners ≤ length (bytes_of_each_face faces) in
      let few = All-weaker Within (λ f. length f.corners < 2 ^ 32) (λ f within. omega (arith, long, parts, fits, within)) faces (corners_within faces triples) in
      record {
        few = omega (arith, long, parts, fits, some_bytes_each faces triples);
        each = records_stand tree few_planes file tree_is bound_is are.pieces faces are.are_records are.is_surface.cover.within small few;
      }

  -- so their bytes are those of faces of the section
  pub bytes_of_faces : AreBytesOfFaces tree faces bytes
  bytes_of_faces = record { exactly = exactly; are_valid = valid_faces }
