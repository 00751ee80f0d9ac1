use Rattle.std.proofs.lemmas.Result.{err_from_is_err_and}
use Rattle.qm_formats.proofs.ReadLists.{one_more, one_fault}
use Rattle.qm_face_layout.specs.FacesLayout.{face_corner_layout}
use Rattle.qm_face_file.proofs.Faults.{faces_fault_passes}
use Rattle.qm_face_file.proofs.face_reading.all_corners_at.Goals as goal

pub returns-in_err-corner : goal.returns-in_err-corner
returns-in_err-corner c =
    let p = err_from_is_err_and c.from_residual.result c.from_residual.ensures.1 in
    rw (p.1, p.2) (faces_fault_passes c.in_err-corner.field-0.0 (one_fault (λ _. face_corner_layout) c.args.count c.args.bytes.now _ c.loop.corners.items c.loop.counter c.loop.next c.loop-test.true c.loop.invariant) c.in_err-corner.ensures)

pub loop-preserved : goal.loop-preserved
loop-preserved c = one_more (λ _. face_corner_layout) c.args.count c.args.bytes.now _ c.loop.corners.items c.loop.counter c.loop.next c.in_ok-corner.corner c.in_ok-corner.after _ c.loop-test.true c.loop.invariant c.in_ok-corner.ensures c.in_ok-push.ensures.items
