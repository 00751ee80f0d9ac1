use Rattle.qm_formats.specs.Layout.{many}
use Rattle.qm_formats.proofs.ReadLists.{IsReadSoFar}
use Rattle.qm_face_layout.specs.FacesLayout.{face_corner_layout}
use Rattle.qm_face_file.proofs.face_reading.all_corners_at.Given as goal

-- some corners are read, and what is read of the others completes them
abbrev pub invariant-loop : goal.invariant-loop
invariant-loop l = IsReadSoFar (λ _. face_corner_layout) l.count l.bytes ((many face_corner_layout l.count).read l.bytes l.at) l.corners.items l.counter l.next
