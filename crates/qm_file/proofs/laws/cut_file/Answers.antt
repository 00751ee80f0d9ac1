use Rattle.qm_formats.proofs.CutFiles.{prefix_cut_off}
use Rattle.qm_file.proofs.laws.cut_file.Goals as goal

pub returns : goal.returns
returns c = prefix_cut_off
