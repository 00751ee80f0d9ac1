use Rattle.std.proofs.Common.{List, [], ◌∷◌, ◌++◌, take, sym, ap, subst, ◌∙◌}
use Rattle.std.proofs.lemmas.List.{take_more}
use Rattle.std.proofs.lemmas.Slice.Zip.{all_zipped_more}
use Rattle.qm_space.specs.Bounds.{world_extent}
use Rattle.qm_space.specs.Plane.{Plane}
use Rattle.qm_face_records.specs.inner.NumberedPlanes.{HasPlaneNumbers}
use Rattle.qm_surface.specs.Surface.{FacePiece}
use Rattle.qm_face_layout.specs.declared.face_record.FaceRecord.{FaceRecord}
use Rattle.qm_face_sections.specs.FaceRecords.{IsRecordOf, AreRecordsOf}
use Rattle.qm_face_records.proofs.records.records_of.Goals as goal

pub loop-piece-init : goal.loop-piece-init
loop-piece-init c = record {
  same = c.in_ok-numbers.ensures;
  are = subst (λ (faces : List FaceRecord). AreRecordsOf c.args.book.now world_extent [] faces) (sym c.in_ok-records.ensures.items) tt;
}

pub record_of-requires : goal.record_of-requires
record_of-requires c =
    let piece = c.piece-item.result in
    let own : HasPlaneNumbers c.args.book.now piece = subst (HasPlaneNumbers c.args.book.now) (sym c.piece-item.is) (c.requires c.loop-piece.piece-index piece c.loop-piece-test.true) in
    subst (λ (planes : List Plane). HasPlaneNumbers planes piece) (sym c.loop-piece.invariant.same) own

pub loop-piece-preserved : goal.loop-piece-preserved
loop-piece-preserved c =
    let book = c.args.book.now in
    let pieces = c.args.pieces.now in
    let i = c.loop-piece.piece-index in
    let piece = c.piece-item.result in
    let first : List FacePiece = take i pieces in
    let more = take_more pieces i piece c.loop-piece-test.true ∙ ap (λ (one : FacePiece). first ++ one ∷ []) (sym c.piece-item.is) in
    let record_is = subst (λ (planes : List Plane). IsRecordOf planes world_extent piece c.in_ok-record_of.field-0) c.loop-piece.invariant.same c.in_ok-record_of.ensures.record in
    let both = all_zipped_more (IsRecordOf book world_extent) first c.loop-piece.records.items piece c.in_ok-record_of.field-0 c.loop-piece.invariant.are record_is in
    record {
      same = c.in_ok-record_of.ensures.same ∙ c.loop-piece.invariant.same;
      are = subst (λ (some : List FacePiece). AreRecordsOf book world_extent some c.push.new.self.items) (sym more)
          (subst (λ (faces : List FaceRecord). AreRecordsOf book world_extent (first ++ piece ∷ []) faces) (sym c.in_ok-push.ensures.items) both);
    }
