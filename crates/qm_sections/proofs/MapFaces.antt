-- The pieces that the brushes of a map cut, and the bytes of their records, are those of the faces of the map.
use Rattle.std.proofs.Common.{◌≡◌, ◌<◌, ◌^◌, ℕ, List, [], ◌∷◌, All, length, sym, subst}
use Rattle.std.specs.List.{AllZip}
use Rattle.std.proofs.lemmas.List.Elements.{All-nil, All-cons, All-head, All-tail}
use Rattle.qm_space.specs.Bounds.{world_extent}
use Rattle.qm_space.specs.Entered.{AreEnteredInBook}
use Rattle.qm_space.specs.Plane.{Plane}
use Rattle.qm_geom.proofs.EnteredPlanes.{one_book}
use Rattle.qm_mapfile.specs.declared.entity.MapFile.{MapFile}
use Rattle.qm_drawn.specs.Planes.{drawn_planes}
use Rattle.qm_drawn.specs.Solids.{drawn_solids}
use Rattle.qm_solids.specs.Alike.{IsAlike}
use Rattle.qm_solids.specs.InBook.{BookSolid, solids_in, IsBookOf}
use Rattle.qm_partition.specs.Tree.{Tree}
use Rattle.qm_solid_tree.specs.GivesContents.{GivesContentsOrIsFilled}
use Rattle.qm_contacts.specs.Contacts.{Contacts, AreContacts}
use Rattle.qm_surface.specs.Surface.{FacePiece, AreFacePieces}
use Rattle.qm_surface.specs.Covered.{CoverBoundary}
use Rattle.qm_face_layout.specs.declared.face_record.FaceRecord.{FaceRecord}
use Rattle.qm_face_layout.specs.FacesLayout.{faces_bytes}
use Rattle.qm_face_sections.specs.CutTrees.{HasSurfaceOf}
use Rattle.qm_face_sections.specs.FaceBytes.{AreBytesOfFaces}
use Rattle.qm_face_sections.specs.FaceRecords.{AreRecordsOf, HasSmallNumbers}
use Rattle.qm_face_sections.specs.MapFaces.{AreFacesOfMap}
use Rattle.qm_face_sections.proofs.MapSurfaces.{gives_in_book, surface_of_map}
use Rattle.qm_face_sections.proofs.ValidFacesOfMap.{bytes_of_faces}
use Rattle.qm_face_records.specs.PiecesInBook.{AreWithinContacts}
use Rattle.qm_sections.specs.inner.SmallPieces.{IsSmallPiece}

-- the records of pieces have small numbers where the pieces have
small_records : (planes : List Plane) (bound : ℕ) (pieces : List FacePiece) (faces : List FaceRecord) → AreRecordsOf planes bound pieces faces → All IsSmallPiece pieces → All HasSmallNumbers faces
small_records planes bound [] [] are small = All-nil HasSmallNumbers
small_records planes bound [] (face ∷ faces) are small = absurd are
small_records planes bound (piece ∷ pieces) [] are small = absurd are
small_records planes bound (piece ∷ pieces) (face ∷ faces) are small =
    let own = All-head IsSmallPiece piece pieces small in
    All-cons HasSmallNumbers face faces
    (record {
      leaf_fits = subst (λ (n : ℕ). n < 2 ^ 64) (sym are.0.leaf_is) own.leaf_fits;
      brush_fits = subst (λ (n : ℕ). n < 2 ^ 64) (sym are.0.brush_is) own.brush_fits;
      face_fits = subst (λ (n : ℕ). n < 2 ^ 32) (sym are.0.face_is) own.face_fits;
    })
    (small_records planes bound pieces faces are.1 (All-tail IsSmallPiece piece pieces small))

module _ (map : MapFile) (tree : Tree) (book : List Plane) (surface : HasSurfaceOf map tree) (entered : AreEnteredInBook [] (drawn_planes map) book) where
  -- the book is the tree's
  pub planes_of_tree : tree.planes ≡ book
  planes_of_tree = one_book surface.entered entered

  module _ (list : List BookSolid) (alike : AllZip IsAlike (drawn_solids map) (solids_in book list)) where
    alike_in_tree : AllZip IsAlike (drawn_solids map) (solids_in tree.planes list)
    alike_in_tree = subst (λ (planes : List Plane). AllZip IsAlike (drawn_solids map) (solids_in planes list)) (sym planes_of_tree) alike

    -- the tree leads points to the contents of the brushes in the book
    pub book_gives : GivesContentsOrIsFilled tree (solids_in book list)
    book_gives = subst (λ (planes : List Plane). GivesContentsOrIsFilled tree (solids_in planes list)) planes_of_tree (gives_in_book map tree list alike_in_tree surface.gives_contents)

    module _ (pieces : List FacePiece) (cover : CoverBoundary tree list pieces) where
      pub within_book : AreWithinContacts book pieces
      within_book = record { tree = tree; planes_are = planes_of_tree; within = cover.within }

      module _ (is_book : IsBookOf book list) (contacts : Contacts) (are_contacts : AreContacts tree contacts) (are_pieces : AreFacePieces tree list contacts.touchings pieces) (faces : List FaceRecord) (records : AreRecordsOf book world_extent pieces faces) where
        records_in_tree : AreRecordsOf tree.planes world_extent pieces faces
        records_in_tree = subst (λ (planes : List Plane). AreRecordsOf planes world_extent pieces faces) (sym planes_of_tree) records

        -- their records are the faces of the map
        pub faces_of_map : AreFacesOfMap map tree faces
        faces_of_map = record {
          pieces = pieces;
          is_surface = surface_of_map map tree list alike_in_tree (subst (λ (planes : List Plane). IsBookOf planes list) (sym planes_of_tree) is_book) contacts are_contacts pieces are_pieces cover;
          are_records = records_in_tree;
        }

        -- and these are their bytes
        pub bytes_of_map : length tree.planes < 2 ^ 32 → All IsSmallPiece pieces → (bytes : List ℕ) → bytes ≡ faces_bytes faces → AreBytesOfFaces tree faces bytes
        bytes_of_map few small bytes exactly = bytes_of_faces map tree few faces bytes faces_of_map (small_records tree.planes world_extent pieces faces records_in_tree small) exactly
