use Rattle.qm_face_files.proofs.FaceLaws.{boundary_faces_of_compiled}
use Rattle.qm_compile.proofs.laws.boundary_points_have_faces.Goals as goal

pub returns : goal.returns
returns c = λ map options file world summary is faces read. boundary_faces_of_compiled map options file world summary is faces read
