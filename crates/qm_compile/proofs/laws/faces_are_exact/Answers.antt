use Rattle.qm_face_files.proofs.FaceLaws.{faces_of_compiled, exact_faces_of_compiled}
use Rattle.qm_compile.proofs.laws.faces_are_exact.Goals as goal

pub returns-clause-there : goal.returns-clause-there
returns-clause-there c = λ map options file world summary is asked. faces_of_compiled map options file world summary is asked

pub returns-clause-exact : goal.returns-clause-exact
returns-clause-exact c = λ map options file world summary is faces read. exact_faces_of_compiled map options file world summary is faces read
