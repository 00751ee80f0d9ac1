use Rattle.qm_formats.specs.Layout.{many}
use Rattle.qm_formats.proofs.ReadLists.{IsReadSoFar}
use Rattle.qm_face_layout.specs.FacesLayout.{face_layout}
use Rattle.qm_face_file.proofs.face_reading.all_faces_at.Given as goal

-- some faces are read, and what is read of the others completes them
abbrev pub invariant-loop : goal.invariant-loop
invariant-loop l = IsReadSoFar (λ _. face_layout l.file) l.count l.bytes ((many (face_layout l.file) l.count).read l.bytes l.at) l.faces.items l.counter l.next
