use Rattle.qm_pieces.proofs.CertainLaws.{no_other_certain}
use Rattle.qm_pieces.proofs.laws.no_other_fault.Goals as goal

pub returns : goal.returns
returns c = no_other_certain
