use Rattle.qm_formats.proofs.ExactFile.{file_exact}
use Rattle.qm_file.proofs.laws.exact_layout.Goals as goal

pub returns : goal.returns
returns c = file_exact
