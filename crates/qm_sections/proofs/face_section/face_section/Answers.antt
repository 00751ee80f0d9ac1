use Rattle.std.proofs.Common.{List, All, subst}
use Rattle.qm_space.specs.Bounds.{world_extent}
use Rattle.qm_surface.specs.Surface.{FacePiece}
use Rattle.qm_face_sections.specs.FaceRecords.{AreRecordsOf}
use Rattle.qm_sections.specs.inner.SmallPieces.{IsSmallPiece}
use Rattle.qm_sections.proofs.MapFaces.{within_book, faces_of_map, bytes_of_map}
use Rattle.qm_sections.proofs.face_section.face_section.Goals as goal

pub encode-requires : goal.encode-requires
encode-requires c =
    let parts = c.requires.parts in
    let its = c.args.parts.now in
    rw c.deref-2.ensures.value
    (within_book c.args.map.now c.args.tree.now its.book c.requires.surface parts.entered its.list parts.solids c.in_ok-pieces.pieces.items c.in_ok-pieces.ensures.cover)

pub returns : goal.returns
returns c =
    let map = c.args.map.now in
    let tree = c.args.tree.now in
    let parts = c.requires.parts in
    let its = c.args.parts.now in
    let pieces = c.in_ok-pieces.pieces.items in
    let cut = c.in_ok-pieces.ensures in
    let made = c.section_of_bytes.ensures in
    let written = c.in_ok-bytes.ensures in
    let small = subst (All IsSmallPiece) c.deref.ensures.value c.pieces_fit.ensures in
    let records = subst (λ (some : List FacePiece). AreRecordsOf its.book world_extent some written.0) c.deref-2.ensures.value written.1 in
    let faces = faces_of_map map tree its.book c.requires.surface parts.entered its.list parts.solids pieces cut.cover parts.is_book its.contacts parts.are_contacts cut.pieces written.0 records in
    let own_bytes = bytes_of_map map tree its.book c.requires.surface parts.entered its.list parts.solids pieces cut.cover parts.is_book its.contacts parts.are_contacts cut.pieces written.0 records
    c.planes_fit.ensures small c.in_ok-bytes.bytes.items written.2 in
    record {
      are_faces = record { kind_is = made.kind; faces = written.0; are_faces = faces; bytes_are = rw made.bytes own_bytes };
      length_fits = rw made.bytes made.length_fits;
      are_bytes = rw made.bytes made.are_bytes;
    }
