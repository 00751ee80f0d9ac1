use Rattle.qm_formats.proofs.RightParts.{reduced_plane, plane_of_reduced}
use Rattle.qm_file.proofs.laws.reduced_planes.Goals as goal

pub returns : goal.returns
returns c = λ h. (reduced_plane h, λ both. plane_of_reduced h both.0 both.1)
