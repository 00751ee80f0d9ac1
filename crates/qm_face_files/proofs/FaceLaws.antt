-- What the faces say of a map, in the files that it compiles to.
use Rattle.std.proofs.Common.{◌≡◌, ℕ, zero, suc, Bool, List, [], ◌∷◌, Some, refl, sym, ◌∙◌, subst}
use Rattle.std.specs.Prelude.{IsTrue, slice_get}
use Rattle.qm_space.specs.Bounds.{world_extent}
use Rattle.qm_space.specs.Point.{Point}
use Rattle.qm_space.specs.Plane.{Plane}
use Rattle.qm_mapfile.specs.declared.entity.MapFile.{MapFile}
use Rattle.qm_solids.specs.InBook.{BookSolid}
use Rattle.qm_partition.specs.Tree.{Tree}
use Rattle.qm_contacts.specs.Meeting.{Meeting}
use Rattle.qm_contacts.specs.World.{World}
use Rattle.qm_formats.specs.TreeFile.{TreeFile}
use Rattle.qm_surface.specs.Owner.{FaceOwner, IsOwnerAt}
use Rattle.qm_surface.specs.Surface.{FacePiece, owner_of}
use Rattle.qm_surface.specs.Covered.{HasOwnPiece}
use Rattle.qm_face_layout.specs.declared.face_record.FaceRecord.{FaceRecord}
use Rattle.qm_face_sections.specs.FaceRecords.{IsRecordOf, AreRecordsOf}
use Rattle.qm_face_sections.specs.MapFaces.{AreFacesOfMap}
use Rattle.qm_commands.specs.declared.options.Options.{Options}
use Rattle.qm_statement.specs.declared.summary.Summary.{Summary}
use Rattle.qm_statement.specs.CompiledMap.{IsCompiledWithoutLeak}
use Rattle.qm_face_files.specs.ReadFaces.{AreReadFaces, HasFaces}
use Rattle.qm_face_files.specs.BoundaryFaces.{HasOwnFace, AreBoundaryFaces}
use Rattle.qm_face_files.proofs.KeptFaces.{faces_there, kept_faces}

-- the record of the piece at a place stands at the same place
record_at : (planes : List Plane) (pieces : List FacePiece) (faces : List FaceRecord) (place : ℕ) (piece : FacePiece) → AreRecordsOf planes world_extent pieces faces → slice_get pieces place ≡ Some piece →
    (face : FaceRecord) × (slice_get faces place ≡ Some face) × IsRecordOf planes world_extent piece face
record_at planes [] faces place piece are there = absurd cc
record_at planes (first ∷ pieces) [] place piece are there = absurd are
record_at planes (first ∷ pieces) (face ∷ faces) zero piece are there =
    let same : first ≡ piece = cc in
    (face, refl, subst (λ (p : FacePiece). IsRecordOf planes world_extent p face) same are.0)
record_at planes (first ∷ pieces) (face ∷ faces) (suc place) piece are there = record_at planes pieces faces place piece are.1 there

-- the face of the one piece that has the point
own_face : (tree : Tree) (solids : List BookSolid) (pieces : List FacePiece) (faces : List FaceRecord) (meeting : Meeting) (side : Bool) (x : Point) → AreRecordsOf tree.planes world_extent pieces faces →
    HasOwnPiece tree solids meeting side x pieces → HasOwnFace tree solids pieces faces meeting side x
own_face tree solids pieces faces meeting side x are own =
    let found = record_at tree.planes pieces faces own.place own.piece are own.alone.there in
    let is = found.2 in
    let owner : owner_of own.piece ≡ record { brush = found.0.brush; face = found.0.face } = λ i. record { brush = sym is.brush_is i; face = sym is.face_is i } in
    record {
      place = own.place;
      piece = own.piece;
      alone = own.alone;
      face = found.0;
      there = found.1;
      is_record = is;
      leaf = is.leaf_is ∙ own.leaf;
      owner = subst (λ (o : FaceOwner). IsOwnerAt tree.planes solids meeting.plane side x o) owner own.owner;
    }

boundary_faces : (map : MapFile) (tree : Tree) (faces : List FaceRecord) → AreFacesOfMap map tree faces → AreBoundaryFaces map tree faces
boundary_faces map tree faces are =
    let surface = are.is_surface in
    record {
      solids = surface.solids;
      are_brushes = surface.are_brushes;
      pieces = are.pieces;
      are_records = are.are_records;
      each = λ meeting side x boundary. own_face tree surface.solids are.pieces faces meeting side x are.are_records (surface.cover.each meeting side x boundary);
    }

module _ (map : MapFile) (options : Options) (file : TreeFile) (world : World) (summary : Summary) (is : IsCompiledWithoutLeak map options file world summary) where
  pub faces_of_compiled : IsTrue options.faces → HasFaces file
  faces_of_compiled asked = faces_there map options file is.has_sections is.has_form.bound asked

  module _ (faces : List FaceRecord) (read : AreReadFaces file faces) where
    pub exact_faces_of_compiled : AreFacesOfMap map file.tree faces
    exact_faces_of_compiled = kept_faces map options file is.has_sections is.has_form.bound faces read

    pub boundary_faces_of_compiled : AreBoundaryFaces map file.tree faces
    boundary_faces_of_compiled = boundary_faces map file.tree faces exact_faces_of_compiled
