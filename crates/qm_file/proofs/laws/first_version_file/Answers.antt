use Rattle.qm_formats.proofs.FirstVersions.{first_version_file}
use Rattle.qm_file.proofs.laws.first_version_file.Goals as goal

pub returns : goal.returns
returns c = first_version_file
