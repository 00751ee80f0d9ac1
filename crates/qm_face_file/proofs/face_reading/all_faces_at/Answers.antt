use Rattle.std.proofs.lemmas.Result.{err_from_is_err_and}
use Rattle.qm_formats.proofs.ReadLists.{one_more, one_fault}
use Rattle.qm_face_layout.specs.FacesLayout.{face_layout}
use Rattle.qm_face_file.proofs.Faults.{faces_fault_passes}
use Rattle.qm_face_file.proofs.face_reading.all_faces_at.Goals as goal

pub returns-in_err-face : goal.returns-in_err-face
returns-in_err-face c =
    let p = err_from_is_err_and c.from_residual.result c.from_residual.ensures.1 in
    rw (p.1, p.2) (faces_fault_passes c.in_err-face.field-0.0 (one_fault (λ _. face_layout c.args.file.now) c.args.count c.args.bytes.now _ c.loop.faces.items c.loop.counter c.loop.next c.loop-test.true c.loop.invariant) c.in_err-face.ensures)

pub loop-preserved : goal.loop-preserved
loop-preserved c = one_more (λ _. face_layout c.args.file.now) c.args.count c.args.bytes.now _ c.loop.faces.items c.loop.counter c.loop.next c.in_ok-face.face c.in_ok-face.after _ c.loop-test.true c.loop.invariant c.in_ok-face.ensures c.in_ok-push.ensures.items
