use Rattle.std.proofs.Common.{arith}
use Rattle.qm_face_layout.proofs.ExactFaces.{read_faces_ends}
use Rattle.qm_face_file.proofs.reading.whole_section.Goals as goal

pub returns : goal.returns
returns c = rw c.from_vec.ensures (read_faces_ends c.args.file.now c.args.bytes.now c.in_ok-faces.faces.items c.in_ok-faces.next (λ i. omega (arith, c.type_inv.bytes i)) c.in_ok-faces.ensures c.if-next-bytes.false)
