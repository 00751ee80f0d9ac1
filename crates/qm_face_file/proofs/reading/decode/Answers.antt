use Rattle.std.proofs.Common.{arith}
use Rattle.qm_face_file.proofs.Answered.{faces_found, faces_only}
use Rattle.qm_face_file.proofs.reading.decode.Goals as goal

pub returns-clause-found : goal.returns-clause-found
returns-clause-found c = faces_found c.args.file.now c.args.bytes.now (λ i. omega (arith, c.type_inv.bytes i)) _ c.whole_section.ensures

pub returns-clause-only : goal.returns-clause-only
returns-clause-only c = faces_only c.args.file.now c.args.bytes.now (λ i. omega (arith, c.type_inv.bytes i)) _ c.whole_section.ensures
